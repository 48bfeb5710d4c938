use Rattle.std.proofs.Common.{◌≡◌, ◌+◌, ◌≤◌, ◌++◌, ◌∷◌, All, List, Option, IsTrue, length, vec_len}
use Rattle.std.specs.Arc.{arc_value}
use Rattle.std.specs.Prelude.{IfSome}
use Rattle.std.specs.List.{AllByRecursion}
use Rattle.std.specs.Vec.{vec_capacity}
use Rattle.std.specs.Vec.Iter.{into_iter_items, into_iter_len}
use Rattle.rld_books.specs.Server.{ServerSeen}
use Rattle.rsl_shard.specs.declared.moved.Move.{Move}
use Rattle.rld_store.specs.Premises.{Only, Premise}
use Rattle.rld_lives.specs.Leaving.{HaveHistory, IsLeft, OfEach}
use Rattle.rld_lives.specs.Planned.{plans_of, told_of}
use Rattle.rld_lives.specs.declared.living.Plan.{Plan}
use Rattle.rld_lives.proofs.Planning.{HaveGone}
use Rattle.rld_lives.proofs.living.lives.Given as goal

abbrev pub invariant-loop-plan : goal.invariant-loop-plan
invariant-loop-plan g l = record {
  can_next : (goal.iterator-loop-plan g).can_next l.plan-iterator;
  is_finite : (goal.iterator-loop-plan g).is_finite l.plan-iterator;
  len : into_iter_len l.plan-iterator ≡ length (into_iter_items l.plan-iterator);
  room : vec_len l.told + length (into_iter_items l.plan-iterator) ≤ vec_capacity l.told;
  place : vec_len l.gone + length (into_iter_items l.plan-iterator) ≤ vec_capacity l.gone;
  tells : All (λ (gone : Option g.row.L.Denot). IfSome gone (λ log. IsTrue (g.L.Log.tells log))) l.gone.items
      → OfEach (λ log. IsTrue (g.L.Log.tells log)) l.logs.older l.logs.newest → OfEach (λ log. IsTrue (g.L.Log.tells log)) l.fn.logs.older l.fn.logs.newest;
  settled : OfEach (λ log. IsTrue (g.L.Log.tells log)) l.logs.older l.logs.newest → OfEach (λ log. Only (g.L.Log.seen log) (g.L.Log.may_leave log)) l.fn.logs.older l.fn.logs.newest
      → OfEach (λ log. Only (g.L.Log.seen log) (g.L.Log.may_leave log)) l.logs.older l.logs.newest;
  past : (earlier : List Plan) × (l.fn.plans.items ≡ earlier ++ into_iter_items l.plan-iterator);
  left : OfEach (λ log. IsTrue (g.L.Log.tells log)) l.logs.older l.logs.newest → (earlier : List Plan) (last : Plan) → l.fn.plans.items ≡ earlier ++ last ∷ into_iter_items l.plan-iterator
      → OfEach (IsLeft g.L.Log.seen g.L.Log.may_leave last.ending) l.logs.older l.logs.newest;
  premises : All (λ (plan : Plan). Premise g.L.Log.tears plan.ending) l.fn.plans.items → AllByRecursion (λ (plan : Plan). Premise g.L.Log.tears plan.ending) (into_iter_items l.plan-iterator);
  have : All (λ (gone : Option g.row.L.Denot). IfSome gone (λ log. IsTrue (g.L.Log.tells log))) l.gone.items → OfEach (λ log. IsTrue (g.L.Log.tells log)) l.logs.older l.logs.newest
      → OfEach (λ log. Only (g.L.Log.seen log) (g.L.Log.may_leave log)) l.fn.logs.older l.fn.logs.newest → All (λ (plan : Plan). Premise g.L.Log.tears plan.ending) l.fn.plans.items
      → (opening : ServerSeen) (history : List Move) → HaveHistory (arc_value l.config) opening history g.L.Log.seen l.fn.logs.older l.fn.logs.newest
      → HaveGone (arc_value l.config) opening history (plans_of l.fn.plans.items) (told_of l.told.items) (plans_of (into_iter_items l.plan-iterator)) g.L.Log.seen l.logs.older l.logs.newest;
}
