-- The hidden blocks are those of the padded password, and they reveal it.
use Rattle.std.proofs.Common.{◌≡◌, ◌≤◌, ℕ, List, length, take, Result, Vec, Global, IfOk, IsTrue}
use Rattle.std.proofs.lemmas.Result.{IfOk-weaker}
use Rattle.rsl_auth.specs.Password.{padded_password, hidden, IsPasswordLength, matches_password}
use Rattle.rsl_auth.proofs.PasswordLemmas.{padded_from_buffer, hidden_from_blocks, matches_password-Decides, matches_password-hidden}
use Rattle.rsl_auth.proofs.password.hide.Goals as goal

pub returns-clause-value : goal.returns-clause-value
returns-clause-value c =
    let octets : List ℕ = take c.padded_len.result c.pad-buffer.result in
    let is_padded : octets ≡ padded_password c.args.password.now =
    padded_from_buffer c.args.password.now c.pad-buffer.result c.padded_len.result c.requires
    c.pad-buffer.ensures c.padded_len.ensures in
    rw (← hidden_from_blocks octets c.args.password.now c.args.secret.now c.args.request_auth.now is_padded)
    c.hide_blocks.ensures

reveals : {E : Type 0} (r : Result (Vec ℕ Global) E) (password secret request_auth : List ℕ)
    → length password ≤ 128
    → IfOk r (λ value. value.items ≡ hidden password secret request_auth)
    → IfOk r (λ value. IsTrue (matches_password value.items secret request_auth password))
reveals r password secret request_auth high =
    IfOk-weaker r (λ value. value.items ≡ hidden password secret request_auth)
    (λ value. IsTrue (matches_password value.items secret request_auth password))
    (λ value made. rw made (matches_password-hidden password secret request_auth high))

pub returns-clause-reveals : goal.returns-clause-reveals
returns-clause-reveals c =
    reveals c.hide_blocks.result c.args.password.now c.args.secret.now c.args.request_auth.now
    c.requires (returns-clause-value c)

lengths : {E : Type 0} (r : Result (Vec ℕ Global) E) (password secret request_auth : List ℕ)
    → IfOk r (λ value. IsTrue (matches_password value.items secret request_auth password))
    → IfOk r (λ value. IsPasswordLength (length value.items))
lengths r password secret request_auth =
    IfOk-weaker r (λ value. IsTrue (matches_password value.items secret request_auth password))
    (λ value. IsPasswordLength (length value.items))
    (λ value matches. ((matches_password-Decides value.items secret request_auth password).0 matches).0)

pub returns-clause-length : goal.returns-clause-length
returns-clause-length c =
    lengths c.hide_blocks.result c.args.password.now c.args.secret.now c.args.request_auth.now (returns-clause-reveals c)
