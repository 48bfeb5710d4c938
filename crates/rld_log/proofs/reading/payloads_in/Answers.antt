use Rattle.std.proofs.Common.{◌≡◌, Bor, ℕ, List, [], ◌∷◌, ◌++◌, map, sym, ap, subst, ◌∙◌}
use Rattle.std.specs.List.{AllByRecursion}
use Rattle.std.proofs.lemmas.List.{map-append}
use Rattle.rld_log.specs.Frames.{Fits}
use Rattle.rld_log.proofs.Readings.{IsLeft, all_fit_more, left_more, none_left}
use Rattle.rld_log.proofs.reading.payloads_in.Goals as goal

pub loop-block-preserved : goal.loop-block-preserved
loop-block-preserved c =
    let now = λ (payload : Bor (List ℕ)). payload.now in
    let more : map now c.push.new.self.items ≡ map now c.loop-block.found.items ++ c.in-Some.block.payload.now ∷ [] =
    ap (map now) c.in_ok-push.ensures.items ∙ map-append now c.loop-block.found.items (c.in-Some.block.payload ∷ []) in
    record {
      fit = subst (λ (found : List (List ℕ)). AllByRecursion Fits found) (sym more)
          (all_fit_more (map now c.loop-block.found.items) c.in-Some.block.payload.now c.loop-block.invariant.fit c.in-Some.ensures.shape.fits);
      left = λ payloads fit is. subst (λ (found : List (List ℕ)). IsLeft payloads found c.in-Some.block.rest.now) (sym more)
          (left_more payloads (map now c.loop-block.found.items) c.loop-block.left.now c.in-Some.block.sum.now c.in-Some.block.payload.now c.in-Some.block.rest.now
          c.in-Some.ensures.shape c.in-Some.ensures.some (c.loop-block.invariant.left payloads fit is));
    }

pub returns : goal.returns
returns c = (
  c.loop-block.invariant.fit,
  λ payloads fit is.
      none_left payloads (map (λ (payload : Bor (List ℕ)). payload.now) c.loop-block.found.items) c.loop-block.left.now c.in_default.ensures.none (c.loop-block.invariant.left payloads fit is),
)
