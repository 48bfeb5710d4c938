use Rattle.std.proofs.Common.{◌≡◌, ◌∷◌, [], ◌++◌, ℕ, List, ap, ◌∙◌, subst, refl, length, arith, rules}
use Rattle.std.specs.Prelude.{Option, Some}
use Rattle.std.specs.Option.{OnSome}
use Rattle.std.specs.VecDeque.{deque_len}
use Rattle.rsl_links.proofs.Freed.{less}
use Rattle.rsl_links.proofs.slots.Slots.remove.Goals as goal

some_is : (taken : Option ℕ) (x : ℕ) (P : Type 0) → taken ≡ Some x → OnSome taken P → P
some_is taken x P is then = subst (λ (one : Option ℕ). OnSome one P) is then

pub returns : goal.returns
returns c =
    let long : deque_len c.args.self.now.sequence ≡ length c.args.self.now.sequence.items = search rules in
    let few = c.requires.kept.sequenced.few in
    let gone = some_is c.remove.result _ _ (c.remove.ensures.succeeds 0 (omega (arith, long, few, c.requires.within))) c.remove.ensures.items in
    less c.args.self.now _ c.requires.kept c.args.at c.slot-slot.result c.requires.within c.slot-slot.ensures.slot c.free.result
    refl (◌∙◌ {A = List ℕ} c.push_back_reserved.ensures.items (ap (λ (xs : List ℕ). xs ++ c.slot-slot.result ∷ []) gone)) refl refl (c.push_back_reserved.ensures.capacity ∙ c.remove.ensures.capacity)
