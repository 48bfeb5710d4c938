-- Lives one after another, plan by plan.
use Rattle.std.proofs.Common.{◌≡◌, ℕ, All, Bool, IsTrue, List, [], ◌∷◌, ◌++◌, length, Option, refl, sym, ◌∙◌, ap, subst, arith, append_assoc, append-nil}
use Rattle.std.specs.Prelude.{IfSome}
use Rattle.std.specs.List.{AllByRecursion}
use Rattle.std.specs.Global.{Vec}
use Rattle.std.proofs.lemmas.List.{length-append, map-append}
use Rattle.std.proofs.lemmas.List.Elements.{All-from_recursion, recursion_from_All}
use Rattle.rsl_accounts.specs.Configuration.{Configuration}
use Rattle.rld_books.specs.Server.{ServerSeen}
use Rattle.rsl_shard.specs.declared.moved.Move.{Move}
use Rattle.rld_lives.specs.Leaving.{HasLived, HaveHistory, HaveLived}
use Rattle.rld_lives.specs.Life.{AreLives, Outcome}
use Rattle.rld_lives.specs.Planned.{told_of}
use Rattle.rld_lives.proofs.Leaving.{items_of}

-- How some lives are past and others are left: what these tell, `later`, is what more all of them tell.
pub record HaveGone {L : Type 0} (config : Configuration) (opening : ServerSeen) (history : List Move) (plans : List (List (List Move))) (told : List (Option (List Outcome))) (rest : List (List (List Move))) (seen : L → List ℕ) (older : Option L) (newest : L) : Type 0 where
  pub mid : List Move
  pub have : HaveHistory config opening mid seen older newest
  pub gone : (later : List (Option (List Outcome))) (left : List Move) → AreLives opening mid rest later left → AreLives opening history plans (told ++ later) left

module _ {L : Type 0} (config : Configuration) (opening : ServerSeen) (history : List Move) (plans : List (List (List Move))) (seen : L → List ℕ) where
  pub none_gone : (told : List (Option (Vec Outcome))) (rest : List (List (List Move))) (older : Option L) (newest : L) → told ≡ [] → plans ≡ rest → HaveHistory config opening history seen older newest
      → HaveGone config opening history plans (told_of told) rest seen older newest
  none_gone told rest older newest none all have = record {
    mid = history;
    have = have;
    gone = λ later left lives.
        subst (λ (t : List (Option (Vec Outcome))). AreLives opening history plans (told_of t ++ later) left) (sym none)
        (subst (λ (p : List (List (List Move))). AreLives opening history p later left) (sym all) lives);
  }

  pub one_gone : (told more : List (Option (Vec Outcome))) (one : Option (Vec Outcome)) (all rest : List (List (List Move))) (batches : List (List Move)) (older left_older : Option L) (newest left_newest : L) → all ≡ batches ∷ rest → more ≡ told ++ one ∷ []
      → (so : HaveGone config opening history plans (told_of told) all seen older newest) → HasLived config opening so.mid batches (items_of one) seen left_older left_newest → HaveGone config opening history plans (told_of more) rest seen left_older left_newest
  unfolding AreLives
  one_gone told more one all rest batches older left_older newest left_newest next is so life = record {
    mid = life.left;
    have = life.have;
    gone = λ later end lives.
        subst (λ (t : List (Option (List Outcome))). AreLives opening history plans t end) (sym (longer later))
        (so.gone (items_of one ∷ later) end (subst (λ (p : List (List (List Move))). AreLives opening so.mid p (items_of one ∷ later) end) (sym next) (life.left, life.life, lives)));
  }
    where
      longer : (later : List (Option (List Outcome))) → told_of more ++ later ≡ told_of told ++ items_of one ∷ later
      longer later =
          ap (λ (t : List (Option (Vec Outcome))). told_of t ++ later) is
          ∙ ap (λ (t : List (Option (List Outcome))). t ++ later) (map-append items_of told (one ∷ []))
          ∙ append_assoc (told_of told) (items_of one ∷ []) later

  pub all_gone : (told : List (Option (Vec Outcome))) (rest : List (List (List Move))) (older : Option L) (newest : L) → length rest ≡ 0 → HaveGone config opening history plans (told_of told) rest seen older newest
      → HaveLived config opening history plans (told_of told) seen older newest
  unfolding AreLives
  all_gone told [] older newest none so = record {
    left = so.mid;
    lives = subst (λ (t : List (Option (List Outcome))). AreLives opening history plans t so.mid) (append-nil (told_of told)) (so.gone [] so.mid refl);
    have = so.have;
  }
  all_gone told (batches ∷ rest) older newest none so = absurd (omega (arith, none))

-- logs that do not count any more, and one more
module _ {L : Type 0} (tells : L → Bool) where
  abbrev Tells : Option L → Type 0
  Tells gone = IfSome gone (λ (log : L). IsTrue (tells log))

  each_before : (gone : List (Option L)) (other : Option L) → AllByRecursion Tells (gone ++ other ∷ []) → AllByRecursion Tells gone × Tells other
  each_before [] other all = (tt, all.0)
  each_before (one ∷ gone) other all = let rest = each_before gone other all.1 in ((all.0, rest.0), rest.1)

  pub all_before : (gone more : List (Option L)) (other : Option L) → more ≡ gone ++ other ∷ [] → All Tells more → All Tells gone × Tells other
  all_before gone more other is all =
      let each = each_before gone other (subst (λ (l : List (Option L)). AllByRecursion Tells l) is (recursion_from_All Tells more all)) in
      (All-from_recursion Tells gone each.0, each.1)

-- ---- the plan that was carried out last

module _ {X : Type 0} where
  too_long : (earlier all : List X) (one : X) → all ≡ earlier ++ one ∷ all → ⊥
  too_long earlier all one is = omega (arith, ap length is ∙ length-append earlier (one ∷ all))

  rest_of : (one other : X) (some more : List X) → one ∷ some ≡ other ∷ more → some ≡ more
  rest_of one other some more is = cc

  same_last : (earlier past rest : List X) (last one : X) → earlier ++ last ∷ rest ≡ past ++ one ∷ rest → last ≡ one
  same_last [] [] rest last one is = cc
  same_last [] (other ∷ past) rest last one is = absurd (too_long past rest one (rest_of last other rest (past ++ one ∷ rest) is))
  same_last (other ∷ earlier) [] rest last one is = absurd (too_long earlier rest last (sym (rest_of other one (earlier ++ last ∷ rest) rest is)))
  same_last (other ∷ earlier) (another ∷ past) rest last one is = same_last earlier past rest last one (rest_of other another (earlier ++ last ∷ rest) (past ++ one ∷ rest) is)

  module _ (plans past left rest : List X) (one : X) (are : plans ≡ past ++ left) (next : left ≡ one ∷ rest) where
    pub past_more : plans ≡ (past ++ one ∷ []) ++ rest
    past_more = are ∙ ap (λ (l : List X). past ++ l) next ∙ sym (append_assoc past (one ∷ []) rest)

    pub is_last : (earlier : List X) (last : X) → plans ≡ earlier ++ last ∷ rest → last ≡ one
    is_last earlier last is = same_last earlier past rest last one (sym is ∙ are ∙ ap (λ (l : List X). past ++ l) next)

  pub none_before : (earlier left all : List X) (last : X) → left ≡ all → all ≡ earlier ++ last ∷ left → ⊥
  none_before earlier left all last same is = too_long earlier all last (is ∙ ap (λ (l : List X). earlier ++ last ∷ l) same)

  pub empty : (rest : List X) → length rest ≡ 0 → rest ≡ []
  empty [] none = refl
  empty (one ∷ rest) none = absurd (omega (arith, none))
