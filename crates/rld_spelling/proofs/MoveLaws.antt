-- Moves are read as they are spelled.
use Rattle.std.proofs.Common.{◌≡◌, inl, inr, ℕ, ◌^◌, ◌-◌, zero, suc, cond, eqb, List, [], ◌∷◌, ◌++◌, Some, None, Ok, refl, sym, ap, ◌∙◌, arith}
use Rattle.std.proofs.lemmas.Bool.{ne_eqb}
use Rattle.rld_spelling.specs.declared.fault.Cause.TheVariants.{NoAccount, OutOfRange, UnknownTag}
use Rattle.rld_spelling.specs.Field.{Reading, IsRead, AreOctets, fault_at, made_of, short}
use Rattle.rld_spelling.specs.Numbers.{number}
use Rattle.rld_spelling.proofs.Callers.{ok_is, tag_case, case_spelled, short_read, number_read, below_read, between_read, both_read, optional_read, list_read}
use Rattle.rsl_event.specs.declared.event.Act.{Act}
use Rattle.rsl_event.specs.declared.event.Act.TheVariants as acts
use Rattle.rsl_event.specs.declared.nas.Nas.{Nas}
use Rattle.rsl_shard.specs.declared.moved.Move.{Move}
use Rattle.rsl_shard.specs.declared.moved.Move.TheVariants.{Own, Sweep, Tick, Stray}
use Rattle.rld_spelling.specs.declared.moves.Counts.{Counts}
use Rattle.rld_spelling.specs.Laws.{FewEnough}
use Rattle.rld_spelling.specs.Moves.{AskParts, AliveParts, StopParts, StrayParts, ask_field, alive_field, stop_field, sweep_field, stray_field, ask_move, alive_move, stop_move, sweep_move, tick_move, stray_move, ask_at, alive_at, stop_at, sweep_at, tick_at, stray_at, own_octets, move_octets, move_at, OwnFits, MoveFits, move_field, moves_field}
use Rattle.rld_spelling.specs.Moves.{stationed_ask_field, stationed_alive_field, late_sweep_field, stationed_ask_move, stationed_alive_move, late_sweep_move, stationed_ask_at, stationed_alive_at, late_sweep_at}
use Rattle.rld_spelling.proofs.ServerLaws.{nas_read, key_read}

ask_read : (counts : Counts) → FewEnough counts → IsRead (ask_field counts)
ask_read counts few =
    both_read _ _ number_read (both_read _ _ (below_read NoAccount counts.accounts (omega arith)) (both_read _ _ key_read (nas_read counts.clients (omega arith))))

alive_read : (counts : Counts) → FewEnough counts → IsRead (alive_field counts)
alive_read counts few =
    both_read _ _ number_read (both_read _ _ (below_read NoAccount counts.accounts (omega arith)) (both_read _ _ (nas_read counts.clients (omega arith))
    (both_read _ _ short_read (both_read _ _ (optional_read short short_read) (optional_read number number_read)))))

stationed_ask_read : (counts : Counts) → FewEnough counts → IsRead (stationed_ask_field counts)
stationed_ask_read counts few = both_read _ _ (ask_read counts few) short_read

stationed_alive_read : (counts : Counts) → FewEnough counts → IsRead (stationed_alive_field counts)
stationed_alive_read counts few = both_read _ _ (alive_read counts few) short_read

stop_read : (counts : Counts) → FewEnough counts → IsRead (stop_field counts)
stop_read counts few =
    both_read _ _ number_read (both_read _ _ (below_read NoAccount counts.accounts (omega arith)) (both_read _ _ (nas_read counts.clients (omega arith)) short_read))

sweep_read : (counts : Counts) → FewEnough counts → IsRead (sweep_field counts)
sweep_read counts few = both_read _ _ number_read (nas_read counts.clients (omega arith))

late_sweep_read : (counts : Counts) → FewEnough counts → IsRead (late_sweep_field counts)
late_sweep_read counts few = both_read _ _ (sweep_read counts few) (between_read OutOfRange 1 (2 ^ 64 - 1) (omega arith))

stray_read : (counts : Counts) → FewEnough counts → IsRead (stray_field counts)
stray_read counts few =
    both_read _ _ number_read (both_read _ _ (nas_read counts.clients (omega arith)) (both_read _ _ (below_read OutOfRange (2 ^ 32) (omega arith)) (both_read _ _ short_read short_read)))

-- a delay of more than 0 is spelled behind the other fields
late_sweep_octets : (counts : Counts) (y : (ℕ × Nas) × ℕ) → (late_sweep_field counts).Fits y → move_octets (late_sweep_move y) ≡ 9 ∷ (late_sweep_field counts).spell y
unfolding move_octets
late_sweep_octets counts y fits = rw (ne_eqb y.1 0 (λ e. omega (arith, fits.1))) refl

move_spelled : (counts : Counts) → FewEnough counts → (octets : List ℕ) (x : Move) (rest : List ℕ) → AreOctets octets → move_at counts octets ≡ Ok (x, rest)
    → (octets ≡ move_octets x ++ rest) × MoveFits counts x
unfolding move_at ask_at alive_at stop_at sweep_at tick_at stray_at stationed_ask_at stationed_alive_at late_sweep_at move_octets
move_spelled counts few [] x rest are e = absurd cc
move_spelled counts few (tag ∷ octets) x rest are e =
    let r1 : Reading Move = ask_at counts octets in
    let r2 : Reading Move = alive_at counts octets in
    let r3 : Reading Move = stop_at counts octets in
    let r4 : Reading Move = sweep_at counts octets in
    let r5 : Reading Move = tick_at octets in
    let r6 : Reading Move = stray_at counts octets in
    let r7 : Reading Move = stationed_ask_at counts octets in
    let r8 : Reading Move = stationed_alive_at counts octets in
    let r9 : Reading Move = late_sweep_at counts octets in
    let unknown : Reading Move = fault_at UnknownTag (tag ∷ octets) in
    let s9 : Reading Move = cond (eqb tag 9) r9 unknown in
    let s8 : Reading Move = cond (eqb tag 8) r8 s9 in
    let s7 : Reading Move = cond (eqb tag 7) r7 s8 in
    let s6 : Reading Move = cond (eqb tag 6) r6 s7 in
    let s5 : Reading Move = cond (eqb tag 5) r5 s6 in
    let s4 : Reading Move = cond (eqb tag 4) r4 s5 in
    let s3 : Reading Move = cond (eqb tag 3) r3 s4 in
    let s2 : Reading Move = cond (eqb tag 2) r2 s3 in
    let read : Reading Move = Ok (x, rest) in
    elim (tag_case tag 1 r1 s2 read e) [
      | inl p ↦ case_spelled (move_field counts) (ask_field counts) (ask_read counts few) ask_move 1 (λ y fits. refl) (λ y fits. (fits, tt)) tag octets x rest p.0 are p.1
      | inr e ↦ elim (tag_case tag 2 r2 s3 read e) [
        | inl p ↦ case_spelled (move_field counts) (alive_field counts) (alive_read counts few) alive_move 2 (λ y fits. refl) (λ y fits. (fits, tt)) tag octets x rest p.0 are p.1
        | inr e ↦ elim (tag_case tag 3 r3 s4 read e) [
          | inl p ↦ case_spelled (move_field counts) (stop_field counts) (stop_read counts few) stop_move 3 (λ y fits. refl) (λ y fits. fits) tag octets x rest p.0 are p.1
          | inr e ↦ elim (tag_case tag 4 r4 s5 read e) [
            | inl p ↦ case_spelled (move_field counts) (sweep_field counts) (sweep_read counts few) sweep_move 4 (λ y fits. refl) (λ y fits. (fits, omega arith)) tag octets x rest p.0 are p.1
            | inr e ↦ elim (tag_case tag 5 r5 s6 read e) [
              | inl p ↦ case_spelled (move_field counts) number number_read tick_move 5 (λ y fits. refl) (λ y fits. fits) tag octets x rest p.0 are p.1
              | inr e ↦ elim (tag_case tag 6 r6 s7 read e) [
                | inl p ↦ case_spelled (move_field counts) (stray_field counts) (stray_read counts few) stray_move 6 (λ y fits. refl) (λ y fits. fits) tag octets x rest p.0 are p.1
                | inr e ↦ elim (tag_case tag 7 r7 s8 read e) [
                  | inl p ↦ case_spelled (move_field counts) (stationed_ask_field counts) (stationed_ask_read counts few) stationed_ask_move 7 (λ y fits. refl) (λ y fits. fits) tag octets x rest p.0 are p.1
                  | inr e ↦ elim (tag_case tag 8 r8 s9 read e) [
                    | inl p ↦ case_spelled (move_field counts) (stationed_alive_field counts) (stationed_alive_read counts few) stationed_alive_move 8 (λ y fits. refl) (λ y fits. fits) tag octets x rest p.0 are p.1
                    | inr e ↦ elim (tag_case tag 9 r9 unknown read e) [
                      | inl p ↦ case_spelled (move_field counts) (late_sweep_field counts) (late_sweep_read counts few) late_sweep_move 9 (late_sweep_octets counts) (λ y fits. (fits.0, omega (arith, fits.1))) tag octets x rest p.0 are p.1
                      | inr e ↦ absurd cc
                    ]
                  ]
                ]
              ]
            ]
          ]
        ]
      ]
    ]

own_again : (counts : Counts) → FewEnough counts → (account moment : ℕ) (act : Act) (rest : List ℕ) → OwnFits counts account moment act
    → move_at counts (own_octets account moment act ++ rest) ≡ Ok (Own account (record { moment = moment; act = act }), rest)
unfolding move_at ask_at alive_at stop_at stationed_ask_at stationed_alive_at
own_again counts few account moment (acts.Ask key nas None) rest fits =
    ap (λ (r : Reading AskParts). made_of ask_move r) ((ask_read counts few).again (moment, (account, (key, nas))) rest fits.0)
own_again counts few account moment (acts.Ask key nas (Some station)) rest fits =
    ap (λ (r : Reading (AskParts × List ℕ)). made_of stationed_ask_move r) ((stationed_ask_read counts few).again ((moment, (account, (key, nas))), station) rest fits)
own_again counts few account moment (acts.Alive nas session bundle class None) rest fits =
    ap (λ (r : Reading AliveParts). made_of alive_move r) ((alive_read counts few).again (moment, (account, (nas, (session, (bundle, class))))) rest fits.0)
own_again counts few account moment (acts.Alive nas session bundle class (Some station)) rest fits =
    ap (λ (r : Reading (AliveParts × List ℕ)). made_of stationed_alive_move r) ((stationed_alive_read counts few).again ((moment, (account, (nas, (session, (bundle, class))))), station) rest fits)
own_again counts few account moment (acts.Stop nas session) rest fits =
    ap (λ (r : Reading StopParts). made_of stop_move r) ((stop_read counts few).again (moment, (account, (nas, session))) rest fits)
own_again counts few account moment (acts.Sweep nas delay) rest fits = absurd fits
own_again counts few account moment acts.Tick rest fits = absurd fits

sweep_again : (counts : Counts) → FewEnough counts → (moment : ℕ) (nas : Nas) (delay : ℕ) (rest : List ℕ) → MoveFits counts (Sweep moment nas delay)
    → move_at counts (move_octets (Sweep moment nas delay) ++ rest) ≡ Ok (Sweep moment nas delay, rest)
unfolding move_at sweep_at late_sweep_at move_octets
sweep_again counts few moment nas zero rest fits =
    ap (λ (r : Reading (ℕ × Nas)). made_of sweep_move r) ((sweep_read counts few).again (moment, nas) rest fits.0)
sweep_again counts few moment nas (suc n) rest fits =
    rw (ne_eqb (suc n) 0 (λ e. omega arith))
    (ap (λ (r : Reading ((ℕ × Nas) × ℕ)). made_of late_sweep_move r) ((late_sweep_read counts few).again ((moment, nas), suc n) rest (fits.0, omega (arith, fits.1))))

move_again : (counts : Counts) → FewEnough counts → (x : Move) (rest : List ℕ) → MoveFits counts x → move_at counts (move_octets x ++ rest) ≡ Ok (x, rest)
unfolding move_at tick_at stray_at move_octets
move_again counts few (Own account event) rest fits = own_again counts few account event.moment event.act rest fits
move_again counts few (Sweep moment nas delay) rest fits = sweep_again counts few moment nas delay rest fits
move_again counts few (Tick moment) rest fits =
    ap (λ (r : Reading ℕ). made_of tick_move r) (number_read.again moment rest fits)
move_again counts few (Stray moment note) rest fits =
    ap (λ (r : Reading StrayParts). made_of stray_move r) ((stray_read counts few).again (moment, (note.nas, (note.status, (note.name, note.session)))) rest fits)

pub move_read : (counts : Counts) → FewEnough counts → IsRead (move_field counts)
move_read counts few = record { spelled = move_spelled counts few; again = move_again counts few }

pub moves_read : (counts : Counts) → FewEnough counts → IsRead (moves_field counts)
moves_read counts few = list_read (move_field counts) (move_read counts few)

pub one_move : (counts : Counts) → FewEnough counts → (a b : Move) (x y : List ℕ) → MoveFits counts a → MoveFits counts b
    → move_octets a ++ x ≡ move_octets b ++ y → (a ≡ b) × (x ≡ y)
one_move counts few a b x y fits others e =
    let same = ok_is (a, x) (b, y) (sym (move_again counts few a x fits) ∙ ap (λ (l : List ℕ). move_at counts l) e ∙ move_again counts few b y others) in
    (ap (λ (z : Move × List ℕ). z.0) same, ap (λ (z : Move × List ℕ). z.1) same)
