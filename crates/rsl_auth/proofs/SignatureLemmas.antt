-- What is signed, and that a packet which was signed is found right.
use Rattle.std.proofs.Common.{◌≡◌, ◌↔◌, Bool, IsTrue, ℕ, ◌+◌, ◌-◌, ◌≤◌, List, ◌++◌, length, take, drop, replicate, true, arith, ap, sym, ◌∙◌}
use Rattle.std.proofs.lemmas.List.{append_assoc, length-append, length-take-le, length-drop, take_all, take_at, drop_at, drop-drop, take-take, drop-take, take-append-drop}
use Rattle.std.proofs.lemmas.Bool.Decides.{Decides-at}
use Rattle.std.proofs.lemmas.Slice.Eq.{bytes_eq-Decides}
use borrow.Rule.Slice.PartMut.{put_mid}
use Rattle.rsl_auth.specs.Authenticator.{authenticator}
use Rattle.rsl_auth.specs.Hmac.{hmac_md5}
use Rattle.rsl_auth.specs.Signature.{value_at, with_value, signature, signed, is_signed}
use Rattle.rsl_auth.proofs.DigestLemmas.{length-md5}

length-signature : (packet : List ℕ) (at : ℕ) (request_auth secret : List ℕ) → length (signature packet at request_auth secret) ≡ 16
unfolding signature hmac_md5
length-signature packet at request_auth secret = length-md5 _

-- ---- the parts of a packet with a value at an offset

module _ (packet : List ℕ) (at : ℕ) (value : List ℕ) (long : length value ≡ 16) (within : at + 16 ≤ length packet) where
  front_long : length (take at packet) ≡ at
  front_long = length-take-le at packet (omega arith)

  joined : with_value packet at value ≡ take at packet ++ (value ++ drop (at + 16) packet)
  joined = append_assoc (take at packet) value (drop (at + 16) packet)

  -- what stands before it is as it was
  take-with_value : take at (with_value packet at value) ≡ take at packet
  take-with_value = ap (take at) joined ∙ take_at (take at packet) (value ++ drop (at + 16) packet) at front_long

  take_less : (n : ℕ) → n ≤ at → take n (with_value packet at value) ≡ take n packet
  take_less n before =
      sym (take-take n at (with_value packet at value) before)
      ∙ ap (take n) take-with_value
      ∙ take-take n at packet before

  -- the value stands there
  value_at-with_value : value_at (with_value packet at value) at ≡ value
  value_at-with_value =
      ap (λ xs. take 16 (drop at xs)) joined
      ∙ ap (take 16) (drop_at (take at packet) (value ++ drop (at + 16) packet) at front_long)
      ∙ take_at value (drop (at + 16) packet) 16 long

  -- and what stands after it is as it was
  drop-with_value : drop (at + 16) (with_value packet at value) ≡ drop (at + 16) packet
  drop-with_value = drop_at (take at packet ++ value) (drop (at + 16) packet) (at + 16) (omega (arith, length-append (take at packet) value, front_long, long))

  -- so a second value stands there in its stead
  with_value-with_value : (other : List ℕ) → with_value (with_value packet at value) at other ≡ with_value packet at other
  with_value-with_value other = rw (take-with_value, drop-with_value)

  authenticator-with_value : 20 ≤ at → authenticator (with_value packet at value) ≡ authenticator packet
  authenticator-with_value header =
      sym (drop-take 4 16 (with_value packet at value))
      ∙ ap (drop 4) (take_less 20 header)
      ∙ drop-take 4 16 packet

  -- a signature is over other octets than its value
  signature-with_value : 20 ≤ at → (request_auth secret : List ℕ) → signature (with_value packet at value) at request_auth secret ≡ signature packet at request_auth secret
  unfolding signature
  signature-with_value header request_auth secret = rw (take_less 4 (omega arith), with_value-with_value (replicate 16 0))

-- ---- what is given to the digest

-- the attributes with zeros for the value, by their parts
attributes_of_parts : (packet : List ℕ) (at : ℕ) → 20 ≤ at → at + 16 ≤ length packet
    → drop 20 (with_value packet at (replicate 16 0)) ≡ take (at - 20) (drop 20 packet) ++ replicate 16 0 ++ drop (at + 16) packet
attributes_of_parts packet at header within =
    let zeros : List ℕ = replicate 16 0 in
    let rest : List ℕ = zeros ++ drop (at + 16) packet in
    let split : take at packet ≡ take 20 packet ++ take (at - 20) (drop 20 packet) =
    take_sum 20 (at - 20) at packet (omega arith) in
    ap (drop 20) (append_assoc (take at packet) zeros (drop (at + 16) packet) ∙ ap (λ xs. xs ++ rest) split ∙ append_assoc (take 20 packet) (take (at - 20) (drop 20 packet)) rest)
    ∙ drop_at (take 20 packet) (take (at - 20) (drop 20 packet) ++ rest) 20 (length-take-le 20 packet (omega arith))
    ∙ sym (append_assoc (take (at - 20) (drop 20 packet)) zeros (drop (at + 16) packet))
  where
    take_sum : (m n k : ℕ) (xs : List ℕ) → k ≡ m + n → take k xs ≡ take m xs ++ take n (drop m xs)
    take_sum m n k xs sum =
        let front : take m (take k xs) ≡ take m xs = take-take m k xs (omega arith) in
        let back : drop m (take k xs) ≡ take n (drop m xs) = rw sum (drop-take m n xs) in
        sym (rw (front, back) at (take-append-drop m (take k xs)))

-- the parts that the digest is given are the message
pub message_of_parts : (key packet request_auth : List ℕ) (at : ℕ) → 20 ≤ at → at + 16 ≤ length packet
    → key
    ++ take 4 packet
    ++ request_auth
    ++ take (at - 20) (drop 20 packet)
    ++ replicate 16 0
    ++ take (length packet - (at + 16)) (drop (at + 16) packet)
    ≡ key ++ (take 4 packet ++ request_auth ++ drop 20 (with_value packet at (replicate 16 0)))
message_of_parts key packet request_auth at header within =
    let back : take (length packet - (at + 16)) (drop (at + 16) packet) ≡ drop (at + 16) packet =
    take_all (length packet - (at + 16)) (drop (at + 16) packet) (omega (arith, length-drop (at + 16) packet)) in
    rw (attributes_of_parts packet at header within, back) (grind (arith, append_assoc))

-- ---- what `sign` writes

pub signed_by_write : (packet : List ℕ) (at n : ℕ) (value request_auth secret : List ℕ) → n ≡ 16
    → value ≡ signature packet at request_auth secret
    → put_mid at n packet value ≡ signed packet at request_auth secret
unfolding signed
signed_by_write packet at n value request_auth secret sixteen is =
    rw (sixteen, is, drop-drop 16 at packet)
    (sym (append_assoc (take at packet) (signature packet at request_auth secret) (drop (at + 16) packet)))

-- a request that is signed with its own Authenticator has its signature
pub is_signed-signed : (packet : List ℕ) (at : ℕ) (request_auth secret : List ℕ) → 20 ≤ at → at + 16 ≤ length packet
    → request_auth ≡ authenticator packet → is_signed (signed packet at request_auth secret) at secret ≡ true
unfolding signed is_signed
is_signed-signed packet at request_auth secret header within own =
    let value : List ℕ = signature packet at request_auth secret in
    let long : length value ≡ 16 = length-signature packet at request_auth secret in
    (bytes_eq-Decides _ _).1
    (value_at-with_value packet at value long within
    ∙ ap (λ auth. signature packet at auth secret) (own ∙ sym (authenticator-with_value packet at value long within header))
    ∙ sym (signature-with_value packet at value long within header (authenticator (with_value packet at value)) secret))

-- the test of a request's signature
pub right_by_test : (packet : List ℕ) (at : ℕ) (secret : List ℕ) (test : Bool) → test ≡ is_signed packet at secret
    → IsTrue test ↔ (value_at packet at ≡ signature packet at (authenticator packet) secret)
unfolding is_signed
right_by_test packet at secret test is = Decides-at _ _ is (bytes_eq-Decides _ _)
