-- Books are read as they are spelled.
use Rattle.std.proofs.Common.{◌≡◌, inl, inr, ℕ, zero, suc, ◌^◌, ◌<◌, ◌≤◌, true, false, cond, eqb, ltb, List, [], ◌∷◌, ◌++◌, Option, Some, None, Ok, refl, ap, arith}
use Rattle.std.proofs.lemmas.Bool.{lt-ltb, or_left, or_right}
use Rattle.rld_spelling.specs.declared.fault.Cause.TheVariants.{OutOfRange, UnknownTag}
use Rattle.rld_spelling.specs.Field.{Reading, IsRead, AreOctets, fault_at, made_of, both, optional, short, short_at, nothing}
use Rattle.rld_spelling.specs.Numbers.{number, number_at}
use Rattle.rld_spelling.proofs.Callers.{tag_case, case_spelled, short_read, nothing_read, number_read, flag_read, both_read, seen_as_read, optional_read, checked_read, list_read}
use Rattle.rsl_event.specs.declared.event.Decision.{Decision}
use Rattle.rsl_event.specs.declared.event.Decision.TheVariants as decisions
use Rattle.rsl_session.specs.declared.saved.SavedHolder.{SavedHolder}
use Rattle.rsl_session.specs.declared.saved.SavedHolder.TheVariants as holders
use Rattle.rld_spelling.specs.declared.book.Held.{Held}
use Rattle.rld_spelling.specs.Books.{DecisionFits, decision_at, decision_octets, decision_field, Since, is_known, since_field, HolderFits, holder_octets}
use Rattle.rld_spelling.specs.Books.{HeldFits, held_since, held_at, held_octets, held_field, reserved_by, bound_to, reserved_since, bound_since}
use Rattle.rld_spelling.specs.Books.{LinkFits, link_of, link_parts, link_as, link_at, link_octets, link_field, links_at, links_octets, links_field}
use Rattle.rld_spelling.specs.Books.{KeptAskFits, kept_ask_of, kept_ask_parts, kept_ask_as, kept_ask_at, kept_ask_octets, kept_ask_field, asks_at, asks_octets, asks_field}
use Rattle.rld_spelling.specs.Books.{KeptStopFits, kept_stop_of, kept_stop_parts, kept_stop_as, kept_stop_at, kept_stop_octets, kept_stop_field, stops_at, stops_octets, stops_field}
use Rattle.rld_spelling.specs.Books.{BookFits, book_of, book_parts, book_as, book_at, book_octets, book_field, books_field}
use Rattle.rld_spelling.proofs.ServerLaws.{nas_read, key_read}

abbrev accept : ℕ → Decision
accept n = decisions.Accept n

decision_spelled : (octets : List ℕ) (x : Decision) (rest : List ℕ) → AreOctets octets → decision_at octets ≡ Ok (x, rest) → (octets ≡ decision_octets x ++ rest) × DecisionFits x
unfolding decision_at decision_octets
decision_spelled [] x rest are e = absurd cc
decision_spelled (tag ∷ octets) x rest are e =
    let a : Reading Decision = Ok (decisions.Done, octets) in
    let b : Reading Decision = made_of accept (number_at octets) in
    let d : Reading Decision = Ok (decisions.LimitReject, octets) in
    let unknown : Reading Decision = fault_at UnknownTag (tag ∷ octets) in
    elim (tag_case tag 0 a (cond (eqb tag 1) b (cond (eqb tag 2) d unknown)) (Ok (x, rest)) e) [
      | inl p ↦ case_spelled decision_field nothing nothing_read (λ u. decisions.Done) 0 (λ u fits. refl) (λ u fits. tt) tag octets x rest p.0 are p.1
      | inr p ↦ elim (tag_case tag 1 b (cond (eqb tag 2) d unknown) (Ok (x, rest)) p) [
        | inl q ↦ case_spelled decision_field number number_read accept 1 (λ n fits. refl) (λ n fits. fits) tag octets x rest q.0 are q.1
        | inr q ↦ elim (tag_case tag 2 d unknown (Ok (x, rest)) q) [
          | inl s ↦ case_spelled decision_field nothing nothing_read (λ u. decisions.LimitReject) 2 (λ u fits. refl) (λ u fits. tt) tag octets x rest s.0 are s.1
          | inr s ↦ absurd cc
        ]
      ]
    ]

decision_again : (x : Decision) (rest : List ℕ) → DecisionFits x → decision_at (decision_octets x ++ rest) ≡ Ok (x, rest)
unfolding decision_at decision_octets
decision_again decisions.Done rest fits = refl
decision_again (decisions.Accept n) rest fits = ap (λ (r : Reading ℕ). made_of accept r) (number_read.again n rest fits)
decision_again decisions.LimitReject rest fits = refl

decision_read : IsRead decision_field
decision_read = record { spelled = decision_spelled; again = decision_again }

since_read : IsRead since_field
since_read = checked_read OutOfRange is_known (both number (optional short)) (both_read _ _ number_read (optional_read short short_read))

-- what is known of a link is spelled behind its holder
reserved_since_octets : (y : ℕ × Since) → (both number since_field).Fits y → held_octets (reserved_since y) ≡ 2 ∷ (both number since_field).spell y
unfolding held_octets
reserved_since_octets y fits = rw (fits.1.1) refl

bound_since_octets : (y : List ℕ × Since) → (both short since_field).Fits y → held_octets (bound_since y) ≡ 3 ∷ (both short since_field).spell y
unfolding held_octets
bound_since_octets y fits = rw (fits.1.1) refl

held_spelled : (octets : List ℕ) (x : Held) (rest : List ℕ) → AreOctets octets → held_at octets ≡ Ok (x, rest) → (octets ≡ held_octets x ++ rest) × HeldFits x
unfolding held_at held_octets
held_spelled [] x rest are e = absurd cc
held_spelled (tag ∷ octets) x rest are e =
    let r0 : Reading Held = made_of reserved_by (number_at octets) in
    let r1 : Reading Held = made_of bound_to (short_at octets) in
    let r2 : Reading Held = made_of reserved_since ((both number since_field).read octets) in
    let r3 : Reading Held = made_of bound_since ((both short since_field).read octets) in
    let unknown : Reading Held = fault_at UnknownTag (tag ∷ octets) in
    let s3 : Reading Held = cond (eqb tag 3) r3 unknown in
    let s2 : Reading Held = cond (eqb tag 2) r2 s3 in
    let s1 : Reading Held = cond (eqb tag 1) r1 s2 in
    let read : Reading Held = Ok (x, rest) in
    elim (tag_case tag 0 r0 s1 read e) [
      | inl p ↦ case_spelled held_field number number_read reserved_by 0 (λ n fits. refl) (λ n fits. (fits, (omega arith, tt))) tag octets x rest p.0 are p.1
      | inr e ↦ elim (tag_case tag 1 r1 s2 read e) [
        | inl p ↦ case_spelled held_field short short_read bound_to 1 (λ n fits. refl) (λ n fits. (fits, (omega arith, tt))) tag octets x rest p.0 are p.1
        | inr e ↦ elim (tag_case tag 2 r2 s3 read e) [
          | inl p ↦ case_spelled held_field (both number since_field) (both_read _ _ number_read since_read) reserved_since 2 reserved_since_octets (λ y fits. (fits.0, fits.1.0)) tag octets x rest p.0 are p.1
          | inr e ↦ elim (tag_case tag 3 r3 unknown read e) [
            | inl p ↦ case_spelled held_field (both short since_field) (both_read _ _ short_read since_read) bound_since 3 bound_since_octets (λ y fits. (fits.0, fits.1.0)) tag octets x rest p.0 are p.1
            | inr e ↦ absurd cc
          ]
        ]
      ]
    ]

-- a link of which nothing is known
plain_again : (holder : SavedHolder) (rest : List ℕ) → HolderFits holder
    → held_at (holder_octets holder (0, None) ++ rest) ≡ Ok (held_since holder (0, None), rest)
unfolding held_at
plain_again (holders.Reserved n) rest fits = ap (λ (r : Reading ℕ). made_of reserved_by r) (number_read.again n rest fits)
plain_again (holders.Bound session) rest fits = ap (λ (r : Reading (List ℕ)). made_of bound_to r) (short_read.again session rest fits)

-- and one of which something is
known_again : (holder : SavedHolder) (since : Since) (rest : List ℕ) → HolderFits holder → since_field.Fits since
    → held_at (holder_octets holder since ++ rest) ≡ Ok (held_since holder since, rest)
unfolding held_at
known_again (holders.Reserved n) since rest fits known =
    rw (known.1) (ap (λ (r : Reading (ℕ × Since)). made_of reserved_since r) ((both_read _ _ number_read since_read).again (n, since) rest (fits, known)))
known_again (holders.Bound session) since rest fits known =
    rw (known.1) (ap (λ (r : Reading (List ℕ × Since)). made_of bound_since r) ((both_read _ _ short_read since_read).again (session, since) rest (fits, known)))

since_again : (holder : SavedHolder) (opened : ℕ) (station : Option (List ℕ)) (rest : List ℕ) → HeldFits (held_since holder (opened, station))
    → held_at (holder_octets holder (opened, station) ++ rest) ≡ Ok (held_since holder (opened, station), rest)
since_again holder zero None rest fits = plain_again holder rest fits.0
since_again holder (suc n) None rest fits = known_again holder (suc n, None) rest fits.0 (fits.1, or_left (ltb 0 (suc n)) false (lt-ltb 0 (suc n) (omega arith)))
since_again holder opened (Some station) rest fits = known_again holder (opened, Some station) rest fits.0 (fits.1, or_right (ltb 0 opened) true refl)

held_again : (x : Held) (rest : List ℕ) → HeldFits x → held_at (held_octets x ++ rest) ≡ Ok (x, rest)
unfolding held_octets
held_again x rest fits = since_again x.holder x.opened x.station rest fits

held_read : IsRead held_field
held_read = record { spelled = held_spelled; again = held_again }

link_read : (clients : ℕ) → clients ≤ 2 ^ 64 → IsRead (link_field clients)
unfolding link_at link_octets LinkFits
link_read clients few =
    let is : IsRead (link_as clients) = seen_as_read link_of link_parts _ (λ x. refl) (λ y. refl) (both_read _ _ (nas_read clients few) (both_read _ _ held_read (both_read _ _ (optional_read short short_read) number_read))) in
    record { spelled = is.spelled; again = is.again }

links_read : (clients : ℕ) → clients ≤ 2 ^ 64 → IsRead (links_field clients)
unfolding links_at links_octets
links_read clients few =
    let is = list_read (link_field clients) (link_read clients few) in
    record { spelled = is.spelled; again = is.again }

kept_ask_read : (clients : ℕ) → clients ≤ 2 ^ 64 → IsRead (kept_ask_field clients)
unfolding kept_ask_at kept_ask_octets KeptAskFits
kept_ask_read clients few =
    let is : IsRead (kept_ask_as clients) = seen_as_read kept_ask_of kept_ask_parts _ (λ x. refl) (λ y. refl) (both_read _ _ key_read (both_read _ _ (nas_read clients few) (both_read _ _ decision_read (both_read _ _ number_read flag_read)))) in
    record { spelled = is.spelled; again = is.again }

asks_read : (clients : ℕ) → clients ≤ 2 ^ 64 → IsRead (asks_field clients)
unfolding asks_at asks_octets
asks_read clients few =
    let is = list_read (kept_ask_field clients) (kept_ask_read clients few) in
    record { spelled = is.spelled; again = is.again }

kept_stop_read : (clients : ℕ) → clients ≤ 2 ^ 64 → IsRead (kept_stop_field clients)
unfolding kept_stop_at kept_stop_octets KeptStopFits
kept_stop_read clients few =
    let is : IsRead (kept_stop_as clients) = seen_as_read kept_stop_of kept_stop_parts _ (λ x. refl) (λ y. refl) (both_read _ _ (nas_read clients few) (both_read _ _ short_read (both_read _ _ number_read flag_read))) in
    record { spelled = is.spelled; again = is.again }

stops_read : (clients : ℕ) → clients ≤ 2 ^ 64 → IsRead (stops_field clients)
unfolding stops_at stops_octets
stops_read clients few =
    let is = list_read (kept_stop_field clients) (kept_stop_read clients few) in
    record { spelled = is.spelled; again = is.again }

book_read_under : (clients : ℕ) → clients ≤ 2 ^ 64 → IsRead (book_field clients)
unfolding book_at book_octets BookFits
book_read_under clients few =
    let is : IsRead (book_as clients) = seen_as_read book_of book_parts _ (λ x. refl) (λ y. refl) (both_read _ _ number_read (both_read _ _ number_read (both_read _ _ number_read (both_read _ _ (links_read clients few) (both_read _ _ (asks_read clients few) (stops_read clients few)))))) in
    record { spelled = is.spelled; again = is.again }

pub book_read : (clients : ℕ) → clients < 2 ^ 32 → IsRead (book_field clients)
book_read clients few = book_read_under clients (omega arith)

pub books_read : (clients : ℕ) → clients < 2 ^ 32 → IsRead (books_field clients)
books_read clients few = list_read (book_field clients) (book_read clients few)
