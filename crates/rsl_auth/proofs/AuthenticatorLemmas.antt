-- A packet that is sealed with sixteen zero octets is an authentic Accounting-Request.
use Rattle.std.proofs.Common.{◌≡◌, ◌≤◌, ℕ, List, ◌++◌, length, take, drop, replicate, true, arith, refl, ap, sym, ◌∙◌}
use Rattle.std.proofs.lemmas.List.{append_assoc, length-append, length-take-le, take_at, drop_at, drop-drop}
use borrow.Rule.Slice.PartMut.{put_mid}
use Rattle.std.proofs.lemmas.Slice.Eq.{bytes_eq-Decides}
use Rattle.md5.specs.Md5.{md5}
use Rattle.rsl_auth.specs.Authenticator.{authenticator, response_authenticator, sealed, is_accounting_authentic}
use Rattle.rsl_auth.proofs.DigestLemmas.{length-md5}

-- the parts of a packet that is joined from them
parts : (front middle back : List ℕ) → length front ≡ 4 → length middle ≡ 16
    → (take 4 (front ++ middle ++ back) ≡ front)
    × (authenticator (front ++ middle ++ back) ≡ middle)
    × (drop 20 (front ++ middle ++ back) ≡ back)
parts front middle back four sixteen =
    let joined : front ++ middle ++ back ≡ front ++ (middle ++ back) = append_assoc front middle back in (
      ap (λ (xs : List ℕ). take 4 xs) joined ∙ take_at front (middle ++ back) 4 four,
      ap (λ (xs : List ℕ). authenticator xs) joined
          ∙ ap (λ (xs : List ℕ). take 16 xs) (drop_at front (middle ++ back) 4 four)
          ∙ take_at middle back 16 sixteen,
      drop_at (front ++ middle) back 20 (omega (arith, length-append front middle)),
    )

authenticator-sealed : (packet request_auth secret : List ℕ) → 20 ≤ length packet
    → authenticator (sealed packet request_auth secret) ≡ response_authenticator packet request_auth secret
unfolding sealed response_authenticator
authenticator-sealed packet request_auth secret whole =
    (parts (take 4 packet) _ (drop 20 packet) (length-take-le 4 packet (omega arith)) (length-md5 _)).1

-- the Authenticator that stands in the packet does not count
response_authenticator-sealed : (packet request_auth secret other : List ℕ) → 20 ≤ length packet
    → response_authenticator (sealed packet request_auth secret) other secret ≡ response_authenticator packet other secret
unfolding sealed response_authenticator
response_authenticator-sealed packet request_auth secret other whole =
    let p = parts (take 4 packet) (response_authenticator packet request_auth secret) (drop 20 packet)
    (length-take-le 4 packet (omega arith)) (length-md5 _) in
    rw (p.0, p.2) refl

is_accounting_authentic-sealed : (packet zeros secret : List ℕ) → 20 ≤ length packet → zeros ≡ replicate 16 0
    → is_accounting_authentic (sealed packet zeros secret) secret ≡ true
unfolding is_accounting_authentic
is_accounting_authentic-sealed packet zeros secret whole none =
    (bytes_eq-Decides _ _).1
    (authenticator-sealed packet zeros secret whole
    ∙ ap (λ (request_auth : List ℕ). response_authenticator packet request_auth secret) none
    ∙ sym (response_authenticator-sealed packet zeros secret (replicate 16 0) whole))

-- the Request Authenticator is written there first, and the digest over it
pub sealed_by_writes : (packet request_auth first digest second secret : List ℕ) → 20 ≤ length packet → length request_auth ≡ 16
    → first ≡ request_auth → digest ≡ md5 (put_mid 4 16 packet first ++ secret) → second ≡ digest
    → put_mid 4 16 (put_mid 4 16 packet first) second ≡ sealed packet request_auth secret
unfolding sealed response_authenticator
sealed_by_writes packet request_auth first digest second secret whole sixteen first_is digested second_is =
    let front : List ℕ = take 4 packet in
    let back : List ℕ = drop 20 packet in
    let written_is : put_mid 4 16 packet first ≡ front ++ request_auth ++ back =
    ap (λ (xs : List ℕ). put_mid 4 16 packet xs) first_is ∙ rw (drop-drop 16 4 packet) (sym (append_assoc front request_auth back)) in
    let is : second ≡ response_authenticator packet request_auth secret = second_is ∙ digested ∙ ap (λ (xs : List ℕ). md5 (xs ++ secret)) written_is in
    let p = parts front request_auth back (length-take-le 4 packet (omega arith)) sixteen in
    (λ k. put_mid 4 16 (written_is k) (is k))
    ∙ rw (drop-drop 16 4 (front ++ request_auth ++ back), p.0, p.2)
    (sym (append_assoc front (response_authenticator packet request_auth secret) back))

pub is_accounting_authentic_by_seal : (packet other zeros secret : List ℕ) → 20 ≤ length packet
    → other ≡ sealed packet zeros secret → zeros ≡ replicate 16 0
    → is_accounting_authentic other secret ≡ true
is_accounting_authentic_by_seal packet other zeros secret whole is none =
    rw is (is_accounting_authentic-sealed packet zeros secret whole none)
