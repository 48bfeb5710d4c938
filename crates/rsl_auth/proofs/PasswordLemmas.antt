-- What the tests of a password mean, the steps of hiding and revealing one, and that a hidden password is revealed.
use Rattle.std.proofs.Common.{◌≡◌, ℕ, zero, suc, ◌+◌, ◌-◌, ◌*◌, ◌/◌, ◌%◌, ◌<◌, ◌≤◌, true, false, List, [], ◌∷◌, ◌++◌, length, get_or, take, drop, replicate, true≢false, bit_xor, Decides, eqb, leb, refl, sym, ap, ◌∙◌, arith, rules}
use Rattle.std.specs.List.{starts_with}
use Rattle.std.specs.Int.Bits.{xor_assoc, xor_self, xor_zero_r}
use Rattle.std.proofs.lemmas.Slice.Eq.{starts_is}
use Rattle.std.proofs.lemmas.List.{length-append, length-replicate, append-nil, append_assoc, length-take-le, length-drop, take_at, drop_at, take_all, take-append-drop, drop-drop, take-take, drop-take, take-replicate, places, same_lists, get_or_default}
use Rattle.std.proofs.Math.Seq.{take-append-add}
use Rattle.std.proofs.lemmas.Slice.{take-put_mid}
use borrow.Rule.Slice.PartMut.{put_mid}
use Rattle.std.proofs.lemmas.List.Prefix.{front_rest}
use Rattle.std.proofs.lemmas.Bool.Decides.{Decides-and, Decides-like, Decides-eqb, nat_tests, same_from_decides}
use Rattle.std.proofs.lemmas.Slice.Eq.{bytes_eq-Decides}
use Rattle.std.specs.Str.{bytes_eq}
use Rattle.md5.specs.Md5.{md5}
use Rattle.rsl_auth.specs.Password.{xor_octets, masked, hidden_blocks, revealed_blocks, hidden, revealed, nuls_after, padded_password, are_nuls, is_padded, IsPadded, is_password_length, IsPasswordLength, matches_password}
use Rattle.rsl_auth.proofs.DigestLemmas.{length-md5}

-- ---- xor

length-xor_octets : (xs ys : List ℕ) → length xs ≡ length ys → length (xor_octets xs ys) ≡ length xs
length-xor_octets [] ys same = refl
length-xor_octets (x ∷ xs) [] same = absurd (omega arith)
length-xor_octets (x ∷ xs) (y ∷ ys) same = ap suc (length-xor_octets xs ys (omega arith))

get_or-xor_octets : (xs ys : List ℕ) (k : ℕ) → k < length xs → length xs ≡ length ys
    → get_or (xor_octets xs ys) k 0 ≡ bit_xor (get_or xs k 0) (get_or ys k 0)
get_or-xor_octets [] ys k within same = absurd (omega arith)
get_or-xor_octets (x ∷ xs) [] k within same = absurd (omega arith)
get_or-xor_octets (x ∷ xs) (y ∷ ys) zero within same = refl
get_or-xor_octets (x ∷ xs) (y ∷ ys) (suc k) within same = get_or-xor_octets xs ys k (omega arith) (omega arith)

-- the same xor once more gives the octets back
xor_octets-xor_octets : (xs ys : List ℕ) → length xs ≡ length ys → xor_octets (xor_octets xs ys) ys ≡ xs
xor_octets-xor_octets [] ys same = refl
xor_octets-xor_octets (x ∷ xs) [] same = absurd (omega arith)
xor_octets-xor_octets (x ∷ xs) (y ∷ ys) same =
    let back : bit_xor (bit_xor x y) y ≡ x = rw (xor_assoc, xor_self) (xor_zero_r x) in
    rw (back, xor_octets-xor_octets xs ys (omega arith)) refl

-- ---- a block

length-masked : (block secret before : List ℕ) → length block ≡ 16 → length (masked block secret before) ≡ 16
unfolding masked
length-masked block secret before len =
    length-xor_octets block (md5 (secret ++ before)) (len ∙ sym (length-md5 (secret ++ before))) ∙ len

masked-masked : (block secret before : List ℕ) → length block ≡ 16
    → masked (masked block secret before) secret before ≡ block
unfolding masked
masked-masked block secret before len =
    xor_octets-xor_octets block (md5 (secret ++ before)) (len ∙ sym (length-md5 (secret ++ before)))

-- octets that are the block's xor the digest's, each at its index
pub masked_from_reads : (octets block secret before digest : List ℕ) → digest ≡ md5 (secret ++ before)
    → length octets ≡ 16 → length block ≡ 16
    → ((k : ℕ) → k < 16 → get_or octets k 0 ≡ bit_xor (get_or block k 0) (get_or digest k 0))
    → octets ≡ masked block secret before
unfolding masked
masked_from_reads octets block secret before digest is lo lb reads =
    let ld : length digest ≡ 16 = rw is (length-md5 (secret ++ before)) in
    let lx : length (xor_octets block digest) ≡ 16 = length-xor_octets block digest (omega arith) ∙ lb in
    let same : octets ≡ xor_octets block digest =
    same_lists octets (xor_octets block digest) (omega arith) (λ k d within.
    get_or_default octets k d 0 within ∙ reads k (omega arith)
    ∙ sym (get_or-xor_octets block digest k (omega arith) (omega arith))
    ∙ get_or_default (xor_octets block digest) k 0 d (omega arith)) in
    rw is at same

-- ---- NULs after a password

are_nuls-Decides : (xs : List ℕ) → Decides (are_nuls xs) (xs ≡ replicate (length xs) 0)
are_nuls-Decides [] = (λ _. refl, λ _. refl)
are_nuls-Decides (x ∷ xs) =
    Decides-like (are_nuls (x ∷ xs)) (λ both. cc) (λ same. (cc, cc))
    (Decides-and (eqb x 0) (are_nuls xs) (Decides-eqb x 0) (are_nuls-Decides xs))

is_padded-Decides : (octets password : List ℕ) → Decides (is_padded octets password) (IsPadded octets password)
is_padded-Decides octets password =
    let rest : List ℕ = drop (length password) octets in
    let begins = starts_is Decides-eqb octets password (starts_with eqb octets password) refl in
    let starts : Decides (starts_with eqb octets password) (octets ≡ password ++ rest) = (begins.0, begins.1 rest) in
    Decides-like (is_padded octets password)
    (λ both. (length rest, both.0 ∙ ap (λ (r : List ℕ). password ++ r) both.1))
    (λ w.
    let nuls : rest ≡ replicate w.0 0 = front_rest octets password (replicate w.0 0) w.1 in
    let count : length rest ≡ w.0 = ap length nuls ∙ length-replicate w.0 0 in
    (w.1 ∙ ap (λ (r : List ℕ). password ++ r) (sym nuls), nuls ∙ ap (λ (n : ℕ). replicate n 0) (sym count)))
    (Decides-and _ _ starts (are_nuls-Decides rest))

Decides-leb : (a b : ℕ) → Decides (leb a b) (a ≤ b)
Decides-leb a b = (λ t. grind (arith, nat_tests), λ h. grind (arith, nat_tests))

is_password_length-Decides : (n : ℕ) → Decides (is_password_length n) (IsPasswordLength n)
is_password_length-Decides n =
    Decides-like (is_password_length n) (λ w. (w.0.0, w.0.1, w.1)) (λ w. ((w.0, w.1), w.2))
    (Decides-and _ _ (Decides-and _ _ (Decides-eqb (n % 16) 0) (Decides-leb 16 n)) (Decides-leb n 128))

-- octets are the password and NULs alone after it where they begin the buffer of a password
pub is_padded_by_buffer : (octets password buffer : List ℕ) → length password ≤ length octets → length octets ≤ 128
    → buffer ≡ password ++ replicate (128 - length password) 0
    → bytes_eq octets (take (length octets) buffer) ≡ is_padded octets password
is_padded_by_buffer octets password buffer longer fits filled =
    let zeros : ℕ = length octets - length password in
    let padded : take (length octets) buffer ≡ password ++ replicate zeros 0 =
    rw filled
    (ap (λ (n : ℕ). take n (password ++ replicate (128 - length password) 0)) (omega arith)
    ∙ take-append-add password (replicate (128 - length password) 0) zeros
    ∙ ap (λ (r : List ℕ). password ++ r) (take-replicate zeros (128 - length password) 0 (omega arith))) in
    same_from_decides _ _
    (Decides-like (bytes_eq octets (take (length octets) buffer)) (λ is. (zeros, is ∙ padded))
    (λ w.
    let count : w.0 ≡ zeros = omega (arith, ap length w.1, length-append password (replicate w.0 0), length-replicate {A = ℕ} w.0 0) in
    w.1 ∙ ap (λ (n : ℕ). password ++ replicate n 0) count ∙ sym padded)
    (bytes_eq-Decides _ _))
    (is_padded-Decides octets password)

-- no octets are a longer password and NULs after it
pub is_padded_too_long : (octets password : List ℕ) → length octets < length password → false ≡ is_padded octets password
is_padded_too_long octets password long =
    same_from_decides {P = IsPadded octets password} _ _
    (λ yes. absurd (true≢false (sym yes)), λ w. absurd (omega (arith, ap length w.1, length-append password (replicate w.0 0))))
    (is_padded-Decides octets password)

pub matches_password-Decides : (value secret request_auth password : List ℕ)
    → Decides (matches_password value secret request_auth password)
    (IsPasswordLength (length value) × IsPadded (revealed value secret request_auth) password)
unfolding matches_password
matches_password-Decides value secret request_auth password =
    Decides-and _ _ (is_password_length-Decides (length value))
    (is_padded-Decides (revealed value secret request_auth) password)

-- ---- hiding and revealing block by block

-- one more hidden block
pub hidden_blocks_more : (more done octets secret before block total : List ℕ) (k n : ℕ) → k < n
    → more ≡ done ++ block
    → block ≡ masked (take (16 * k + 16 - 16 * k) (drop (16 * k) octets)) secret before
    → done ++ hidden_blocks (n - k) (drop (16 * k) octets) secret before ≡ total
    → more ++ hidden_blocks (n - (k + 1)) (drop (16 * (k + 1)) octets) secret block ≡ total
unfolding hidden_blocks
hidden_blocks_more more done octets secret before block total k n left grown is held =
    let len : 16 * k + 16 - 16 * k ≡ 16 = omega arith in
    let count : n - k ≡ suc (n - (k + 1)) = omega arith in
    let place : 16 * k + 16 ≡ 16 * (k + 1) = omega arith in
    let here : masked (take 16 (drop (16 * k) octets)) secret before ≡ block = rw len at (sym is) in
    let rest : drop 16 (drop (16 * k) octets) ≡ drop (16 * (k + 1)) octets =
    drop-drop 16 (16 * k) octets ∙ ap (λ (p : ℕ). drop p octets) place in
    rw (grown, append_assoc, ← rest) (rw (count, here) at held)

-- one more revealed block
pub revealed_blocks_more : (more done value secret before block total : List ℕ) (k n : ℕ) → k < n
    → more ≡ done ++ masked block secret before
    → block ≡ take (16 * k + 16 - 16 * k) (drop (16 * k) value)
    → done ++ revealed_blocks (n - k) (drop (16 * k) value) secret before ≡ total
    → more ++ revealed_blocks (n - (k + 1)) (drop (16 * (k + 1)) value) secret block ≡ total
unfolding revealed_blocks
revealed_blocks_more more done value secret before block total k n left grown is held =
    let len : 16 * k + 16 - 16 * k ≡ 16 = omega arith in
    let count : n - k ≡ suc (n - (k + 1)) = omega arith in
    let place : 16 * k + 16 ≡ 16 * (k + 1) = omega arith in
    let here : take 16 (drop (16 * k) value) ≡ block = rw len at (sym is) in
    let rest : drop 16 (drop (16 * k) value) ≡ drop (16 * (k + 1)) value =
    drop-drop 16 (16 * k) value ∙ ap (λ (p : ℕ). drop p value) place in
    rw (grown, append_assoc, ← rest) (rw (count, here) at held)

-- one more block is written into the buffer after the others
pub buffer_more : (buffer octets block secret before : List ℕ) (k : ℕ) → octets ≡ masked block secret before
    → length block ≡ 16 → 16 * k + 16 ≤ length buffer
    → (length (put_mid (16 * k) (16 * k + 16 - 16 * k) buffer octets) ≡ length buffer)
    × (take (16 * (k + 1)) (put_mid (16 * k) (16 * k + 16 - 16 * k) buffer octets)
    ≡ take (16 * k) buffer ++ masked block secret before)
buffer_more buffer octets block secret before k is len fits =
    let lo : length octets ≡ 16 = ap length is ∙ length-masked block secret before len in (
      search (rules, places),
      take-put_mid (16 * k) (16 * k + 16 - 16 * k) buffer octets (16 * (k + 1)) (omega arith) (omega arith)
          ∙ ap (λ (xs : List ℕ). take (16 * k) buffer ++ xs) is,
    )

-- no hidden block is left
pub hidden_blocks_all : (done octets secret before total : List ℕ) (k n : ℕ) → n ≤ k
    → done ++ hidden_blocks (n - k) octets secret before ≡ total → done ≡ total
unfolding hidden_blocks
hidden_blocks_all done octets secret before total k n end held =
    let none : n - k ≡ 0 = omega arith in
    sym (append-nil done) ∙ (rw none at held)

-- no block is left to reveal
pub revealed_blocks_all : (done octets value secret before request_auth : List ℕ) (k : ℕ) → length value / 16 ≤ k
    → done ++ revealed_blocks (length value / 16 - k) octets secret before
    ≡ revealed_blocks (length value / 16) value secret request_auth
    → done ≡ revealed value secret request_auth
unfolding revealed_blocks revealed
revealed_blocks_all done octets value secret before request_auth k end held =
    let none : length value / 16 - k ≡ 0 = omega arith in
    sym (append-nil done) ∙ (rw none at held)

-- the password in a buffer of NULs, up to a multiple of 16 octets
-- a password and its NULs are whole blocks, at least one and at most eight
record Blocks (n zeros : ℕ) : Type 0 where
  whole : (n + zeros) % 16 ≡ 0
  some : 16 ≤ n + zeros
  most : n ≤ 128 → n + zeros ≤ 128

blocks_of : (n : ℕ) → Blocks n (nuls_after n)
blocks_of zero = record { whole = refl; some = omega arith; most = λ fits. omega arith }
blocks_of (suc n) =
    let is : nuls_after (suc n) ≡ (16 - suc n % 16) % 16 = grind (arith, nat_tests) in
    record { whole = omega (arith, is); some = omega (arith, is); most = λ fits. omega (arith, is) }

pub padded_from_buffer : (password buffer : List ℕ) (end : ℕ) → length password ≤ 128
    → buffer ≡ password ++ replicate (128 - length password) 0
    → end ≡ length password + nuls_after (length password)
    → take end buffer ≡ padded_password password
padded_from_buffer password buffer end fits filled is =
    let n : ℕ = length password in
    let zeros : ℕ = nuls_after n in
    let fit : n + zeros ≤ 128 = (blocks_of n).most fits in
    rw (filled, is)
    (take-append-add password (replicate (128 - length password) 0) zeros
    ∙ ap (λ (r : List ℕ). password ++ r) (take-replicate zeros (128 - n) 0 (omega (arith, fit))))

pub hidden_from_blocks : (octets password secret request_auth : List ℕ) → octets ≡ padded_password password
    → hidden_blocks (length octets / 16) octets secret request_auth ≡ hidden password secret request_auth
unfolding hidden
hidden_from_blocks octets password secret request_auth is = rw is refl

-- ---- a hidden password is revealed

take_sum : (m n k : ℕ) (xs : List ℕ) → k ≡ m + n → take k xs ≡ take m xs ++ take n (drop m xs)
take_sum m n k xs sum =
    let front : take m (take k xs) ≡ take m xs = take-take m k xs (omega arith) in
    let back : drop m (take k xs) ≡ take n (drop m xs) = rw sum (drop-take m n xs) in
    sym (rw (front, back) at (take-append-drop m (take k xs)))

length-hidden_blocks : (n : ℕ) (octets secret before : List ℕ) → 16 * n ≤ length octets
    → length (hidden_blocks n octets secret before) ≡ 16 * n
unfolding hidden_blocks
length-hidden_blocks zero octets secret before fits = refl
length-hidden_blocks (suc n) octets secret before fits =
    let block : List ℕ = masked (take 16 octets) secret before in
    let lb : length block ≡ 16 = length-masked (take 16 octets) secret before (length-take-le 16 octets (omega arith)) in
    let rest : length (hidden_blocks n (drop 16 octets) secret block) ≡ 16 * n =
    length-hidden_blocks n (drop 16 octets) secret block (omega (arith, length-drop 16 octets)) in
    omega (arith, length-append block (hidden_blocks n (drop 16 octets) secret block))

revealed_blocks-hidden_blocks : (n : ℕ) (octets secret before : List ℕ) → 16 * n ≤ length octets
    → revealed_blocks n (hidden_blocks n octets secret before) secret before ≡ take (16 * n) octets
unfolding hidden_blocks revealed_blocks
revealed_blocks-hidden_blocks zero octets secret before fits = refl
revealed_blocks-hidden_blocks (suc n) octets secret before fits =
    let block : List ℕ = masked (take 16 octets) secret before in
    let rest : List ℕ = hidden_blocks n (drop 16 octets) secret block in
    let lt : length (take 16 octets) ≡ 16 = length-take-le 16 octets (omega arith) in
    let lb : length block ≡ 16 = length-masked (take 16 octets) secret before lt in
    let front : take 16 (block ++ rest) ≡ block = take_at block rest 16 lb in
    let back : drop 16 (block ++ rest) ≡ rest = drop_at block rest 16 lb in
    let here : masked block secret before ≡ take 16 octets = masked-masked (take 16 octets) secret before lt in
    let later : revealed_blocks n rest secret block ≡ take (16 * n) (drop 16 octets) =
    revealed_blocks-hidden_blocks n (drop 16 octets) secret block (omega (arith, length-drop 16 octets)) in
    let whole : take (16 * suc n) octets ≡ take 16 octets ++ take (16 * n) (drop 16 octets) = take_sum 16 (16 * n) (16 * suc n) octets (omega arith) in
    rw (front, back, here, later) (sym whole)

length-padded : (password : List ℕ) → length (padded_password password) ≡ length password + nuls_after (length password)
length-padded password =
    length-append password (replicate (nuls_after (length password)) 0)
    ∙ ap (λ (n : ℕ). length password + n) (length-replicate (nuls_after (length password)) 0)

length-hidden : (password secret request_auth : List ℕ)
    → length (hidden password secret request_auth) ≡ length (padded_password password)
unfolding hidden
length-hidden password secret request_auth =
    let n : ℕ = length (padded_password password) in
    let blocks = length-hidden_blocks (n / 16) (padded_password password) secret request_auth (omega arith) in
    let whole : n % 16 ≡ 0 = rw (length-padded password) (blocks_of (length password)).whole in
    omega (arith, blocks, whole)

revealed_blocks_of_hidden : (password secret request_auth : List ℕ) (n : ℕ) → n ≡ length (padded_password password) / 16
    → 16 * n ≤ length (padded_password password)
    → revealed_blocks n (hidden password secret request_auth) secret request_auth ≡ take (16 * n) (padded_password password)
unfolding hidden
revealed_blocks_of_hidden password secret request_auth n is fits =
    rw (← is) (revealed_blocks-hidden_blocks n (padded_password password) secret request_auth fits)

revealed-hidden : (password secret request_auth : List ℕ)
    → revealed (hidden password secret request_auth) secret request_auth ≡ padded_password password
unfolding revealed
revealed-hidden password secret request_auth =
    let n : ℕ = length (padded_password password) / 16 in
    let blocks : length (padded_password password) % 16 ≡ 0 = rw (length-padded password) (blocks_of (length password)).whole in
    let whole : 16 * n ≡ length (padded_password password) = omega (arith, blocks) in
    rw (length-hidden password secret request_auth)
    (revealed_blocks_of_hidden password secret request_auth n refl (omega arith)
    ∙ take_all (16 * n) (padded_password password) (omega arith))

pub matches_password-hidden : (password secret request_auth : List ℕ) → length password ≤ 128
    → matches_password (hidden password secret request_auth) secret request_auth password ≡ true
matches_password-hidden password secret request_auth high =
    let value : List ℕ = hidden password secret request_auth in
    let len : length value ≡ length password + nuls_after (length password) =
    length-hidden password secret request_auth ∙ length-padded password in
    let blocks = blocks_of (length password) in
    (matches_password-Decides value secret request_auth password).1 (
      (rw len blocks.whole, rw len blocks.some, rw len (blocks.most high)),
      (nuls_after (length password), revealed-hidden password secret request_auth),
    )

-- two lists that are written one after the other into a buffer
pub written_together : (front back buffer first second : List ℕ) (n len : ℕ) → n ≡ length front → len ≡ n + length back
    → first ≡ front → second ≡ back
    → take len (put_mid n (len - n) (first ++ drop n buffer) second) ≡ front ++ back
written_together front back buffer first second n len n_is len_is first_is second_is =
    let rest : List ℕ = drop (len - n) (drop n (front ++ drop n buffer)) in
    let kept : take n (front ++ drop n buffer) ≡ front = take_at front (drop n buffer) n (sym n_is) in
    let joined : put_mid n (len - n) (front ++ drop n buffer) back ≡ (front ++ back) ++ rest =
    ap (λ (xs : List ℕ). xs ++ (back ++ rest)) kept ∙ sym (append_assoc front back rest) in
    (λ k. take len (put_mid n (len - n) (first_is k ++ drop n buffer) (second_is k)))
    ∙ ap (λ (xs : List ℕ). take len xs) joined
    ∙ take_at (front ++ back) rest len (omega (arith, length-append front back, n_is, len_is))
