-- What a datagram answers to a request that is under way (RFC 5176).
use Rattle.std.specs.Prelude.{ℕ, List, Option, slice_get}
use Rattle.std.specs.Option.{option_and_then}
use Rattle.rsl_accounts.specs.Configuration.{Configuration, client_number}
use Rattle.rsl_accounts.specs.declared.client.Client.{Client}
use Rattle.rld_control.specs.Answer.{answer_of}
use Rattle.rld_control.specs.declared.answer.DisconnectAnswer.{DisconnectAnswer}

-- what a datagram answers to the octets of a request by the secret of the client with an address
abbrev pub answer_from : Configuration → (address request datagram : List ℕ) → Option DisconnectAnswer
answer_from config address request datagram =
    option_and_then (λ (number : ℕ).
    option_and_then (λ (client : Client). answer_of request client.secret datagram)
    (slice_get config.clients number)) (client_number config address)
