-- A sweep ends the links at its access server that opened at least its delay ago, and no other.
use Rattle.std.proofs.Common.{◌≡◌, ℕ, suc, ◌+◌, ◌-◌, ◌<◌, ◌≤◌, [], ◌∷◌, length, Bool, true, false, cond, ◌&&◌, ◌||◌, not, refl, ap, sym, ◌∙◌, subst, eqb, ◌⊎◌, inl, inr, arith}
use Rattle.std.specs.Prelude.{◌≢◌, ◌↔◌, Option, Some, None, Contains, nat_le, max}
use Rattle.std.proofs.lemmas.Bool.{leb-true, leb-false}
use Rattle.std.proofs.lemmas.List.Elements.{All-weaker, All-contains_itself}
use Rattle.rsl_accounts.specs.declared.rules.Rules.{Rules}
use Rattle.rsl_event.specs.declared.event.Act.TheVariants.{Sweep}
use Rattle.rsl_event.specs.declared.event.Event.{Event}
use Rattle.rsl_event.specs.declared.nas.Nas.{Nas}
use Rattle.rsl_session.specs.declared.outcome.Outcome.TheVariants.{Passed}
use Rattle.rsl_session.specs.Past.{Past}
use Rattle.rsl_session.specs.Clock.{clock, clock_at}
use Rattle.rsl_session.specs.Sweep.{precedes}
use Rattle.rsl_session.specs.Link.{nas_at, opened_at, opens}
use Rattle.rsl_session.specs.Held.{ended_by, held_before, held_links, is_at, is_nas, yields}
use Rattle.rsl_session.specs.Rule.{entry_of, outcome_by, outcome_of}
use Rattle.rsl_session.proofs.Callers.{gives_way, held-quiet, left_by, nas_is_same, same_nas-true}
use Rattle.rsl_rule.specs.Sweeping.{HasSwept, IsSpared}
use Rattle.rsl_rule.proofs.Filtered.{filter_keeps}

-- a link opened no later than the clock shows
opened_by_now : (link : ℕ) (past : Past) → opened_at link past ≤ clock past
unfolding opened_at clock
opened_by_now link [] = omega arith
opened_by_now link (entry ∷ past) = by_cases (eqb link (suc (length past))) (opened_by_now link past) where
  by_cases : (here : Bool) → opened_at link past ≤ clock past → cond here (max (clock past) entry.event.moment) (opened_at link past) ≤ max (clock past) entry.event.moment
  by_cases true older = omega arith
  by_cases false older = omega arith

-- whether a link is at an access server
is_there : (other : Option Nas) (nas : Nas) → (is_nas other nas ≡ true) ↔ (other ≡ Some nas)
is_there None nas = ((λ is. cc), (λ is. cc))
is_there (Some other) nas = (
  (λ is. ap Some (same_nas-true other nas is)),
  (λ is. let same : other ≡ nas = cc in sym (nas_is_same other nas true ((λ yes. same), (λ yes. refl)))),
)

not_there : (other : Option Nas) (nas : Nas) → is_nas other nas ≡ false → other ≢ Some nas
not_there other nas misses is = let contradiction : false ≡ true = sym misses ∙ (is_there other nas).1 is in cc

-- what a sweep does not end
spared_so : (rules : Rules) (past : Past) (event : Event) (nas : Nas) (delay link : ℕ)
    → (not ((is_at past nas link && precedes (opened_at link past) delay (clock_at past event)) || false) ≡ true) ↔ IsSpared rules past event nas delay link
unfolding is_at entry_of clock clock_at
spared_so rules past event nas delay link = by_cases (is_nas (nas_at link past) nas) refl (nat_le delay (max (clock past) event.moment - opened_at link past)) refl where
  Spared : Type 0
  Spared = (nas_at link past ≢ Some nas) ⊎ (max (clock past) event.moment < opened_at link past + delay)

  by_cases : (there : Bool) → is_nas (nas_at link past) nas ≡ there → (older : Bool) → nat_le delay (max (clock past) event.moment - opened_at link past) ≡ older
      → (not ((there && older) || false) ≡ true) ↔ Spared
  by_cases false there older is = ((λ yes. inl (not_there (nas_at link past) nas there)), (λ spared. refl))
  by_cases true there false is =
      let opened = opened_by_now link past in
      let newer = leb-false delay (max (clock past) event.moment - opened_at link past) is in
      ((λ yes. inr (omega arith)), (λ spared. refl))
  by_cases true there true is =
      let older = leb-true delay (max (clock past) event.moment - opened_at link past) is in
      let opened = opened_by_now link past in (
        (λ yes. cc),
        (λ spared. elim spared [
          | inl elsewhere ↦ absurd (elsewhere ((is_there (nas_at link past) nas).0 there))
          | inr newer ↦ absurd (omega arith)
        ]),
      )

module _ (rules : Rules) (past : Past) (event : Event) (nas : Nas) (delay : ℕ) (swept : event.act ≡ Sweep nas delay) where
  passes : outcome_of rules past event ≡ Passed
  unfolding outcome_of
  passes = ap (outcome_by rules past event) swept

  quiet : opens (entry_of rules past event).outcome ≡ false
  unfolding entry_of opens
  quiet = ap opens passes

  -- what is held after it
  left : held_links rules (entry_of rules past event ∷ past) ≡ left_by rules (entry_of rules past event) past
  left = held-quiet rules (entry_of rules past event) past quiet

  way_is : (link : ℕ) → gives_way (entry_of rules past event) past link ≡ ((is_at past nas link && precedes (opened_at link past) delay (clock_at past event)) || false)
  unfolding gives_way ended_by yields entry_of
  way_is link =
      ap (λ act. ended_by past (clock_at past event) act link || yields link (outcome_of rules past event)) swept
      ∙ ap (λ did. (is_at past nas link && precedes (opened_at link past) delay (clock_at past event)) || yields link did) passes

  stays : (link : ℕ) → (not (gives_way (entry_of rules past event) past link) ≡ true) ↔ IsSpared rules past event nas delay link
  stays link = subst (λ way. (not way ≡ true) ↔ IsSpared rules past event nas delay link) (sym (way_is link)) (spared_so rules past event nas delay link)

  held : (link : ℕ) → Contains (held_links rules (entry_of rules past event ∷ past)) link ↔ (Contains (held_before rules past event) link × IsSpared rules past event nas delay link)
  unfolding left_by entry_of
  held link =
      let keeps = filter_keeps (λ one. not (gives_way (entry_of rules past event) past one)) (held_before rules past event) link in (
        (λ has. let parts = keeps.0 (subst (λ links. Contains links link) left has) in (parts.0, (stays link).0 parts.1)),
        (λ has. subst (λ links. Contains links link) (sym left) (keeps.1 (has.0, (stays link).1 has.1))),
      )

  away : (link : ℕ) → delay ≡ 0 → IsSpared rules past event nas delay link → nas_at link past ≢ Some nas
  unfolding entry_of clock
  away link at_once spared = elim spared [
    | inl elsewhere ↦ elsewhere
    | inr newer ↦ let opened = opened_by_now link past in absurd (omega arith)
  ]

  pub has_swept : HasSwept rules past event nas delay
  has_swept = record {
    held = held;
    all_end = λ at_once. All-weaker (Contains (held_links rules (entry_of rules past event ∷ past))) (λ link. nas_at link past ≢ Some nas)
        (λ link has. away link at_once ((held link).0 has).1)
        (held_links rules (entry_of rules past event ∷ past))
        (All-contains_itself (held_links rules (entry_of rules past event ∷ past)));
  }
