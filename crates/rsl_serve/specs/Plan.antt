-- What the arguments of a server ask for.
use Rattle.std.specs.Prelude.{ℕ, ◌&&◌, nat_lt, nat_le, List, Option, None, Some, if◌then◌else◌, option_and_then}
use Rattle.rsl_accounts.specs.Address.{address_of}
use Rattle.rsl_script.specs.Values.{read_number}
use Rattle.rsl_serve.specs.declared.plan.Plan.{Plan}

-- a UDP port: a number 1 to 65,535 in decimal digits
unfoldable pub read_port : List ℕ → Option ℕ
read_port word =
    option_and_then
    (λ number. if nat_le 1 number && nat_lt number 65536 then Some number else None)
    (read_number word)

-- an address, two ports, and how many turns each receiver takes: a number under 2^64 in decimal
-- digits
unfoldable pub plan_of : (address auth acct turns : List ℕ) → Option Plan
plan_of address auth acct turns =
    option_and_then (λ address.
    option_and_then (λ auth.
    option_and_then (λ acct.
    option_and_then (λ turns.
    Some (record { address = address; auth = auth; acct = acct; turns = turns }))
    (read_number turns)) (read_port acct)) (read_port auth)) (address_of address)
