-- A store stands for a history, before and after each call.
use Rattle.std.proofs.Common.{◌≡◌, inl, inr, ℕ, ◌+◌, List, [], ◌∷◌, ◌++◌, length, refl, sym, ap, subst, ◌∙◌, arith}
use Rattle.rsl_accounts.specs.Configuration.{Configuration}
use Rattle.rsl_shard.specs.declared.moved.Move.{Move}
use Rattle.rld_books.specs.Server.{ServerSeen, replay}
use Rattle.rld_log.specs.Frames.{Fits, frames}
use Rattle.rld_log.specs.Log.{Extends}
use Rattle.rld_log.specs.Recording.{IsBeforeOrAfter, LeavesEither}
use Rattle.rld_log.specs.declared.log.Ending.{Ending}
use Rattle.rld_log.proofs.Callers.{whole_has}
use Rattle.rld_spelling.specs.Moves.{moves_field}
use Rattle.rld_store.specs.Generations.{HasHistoryOr, counts_of}
use Rattle.rld_store.specs.Standing.{EndsSo, IsUnsettled, LosesNothing, StandsFor}
use Rattle.rld_store.specs.declared.store.End.{End}
use Rattle.rld_store.specs.declared.store.End.TheVariants.{Settled, Unsettled}
use Rattle.rld_store.proofs.Batches.{history_more, replay_more, size_more}

-- ---- the end of a log

-- mending that failed
pub still_unsettled : (tears : List ℕ → List ℕ → Type 0) (seen new : List ℕ) (old may_leave : Ending → List ℕ → Type 0) (payloads : List (List ℕ)) (unanswered : List ℕ)
    → IsUnsettled tears seen old payloads unanswered → Extends (frames payloads) new
    → ((ending : Ending) → LeavesEither (old ending) payloads unanswered → LeavesEither (may_leave ending) payloads unanswered) → IsUnsettled tears new may_leave payloads unanswered
still_unsettled tears seen new old may_leave payloads unanswered so front leaves = record {
  fit = so.fit;
  front = front;
  left = λ ending premise. leaves ending (so.left ending premise);
}

-- ---- what a store stands for

module _ (config : Configuration) (opening : ServerSeen) (tears : List ℕ → List ℕ → Type 0) where
  -- a call that recorded a batch and made it
  pub stands_more : (end : End) (seen new : List ℕ) (old may_leave : Ending → List ℕ → Type 0) (whole size : ℕ) (books made : ServerSeen) (history unanswered batch : List Move) (payload : List ℕ)
      → StandsFor config opening tears end seen old whole books history unanswered → Fits payload → size ≡ whole + (20 + length payload) → made ≡ replay books batch
      → payload ≡ (moves_field (counts_of config)).spell batch → (moves_field (counts_of config)).Fits batch
      → ((before : List (List ℕ)) (other : List ℕ) → whole ≡ length (frames before) → EndsSo end tears seen old before other → EndsSo Settled tears new may_leave (before ++ payload ∷ []) payload)
      → StandsFor config opening tears Settled new may_leave size made (history ++ batch) batch
  stands_more end seen new old may_leave whole size books made history unanswered batch payload so short size_is made_is is fit ends = record {
    payloads = so.payloads ++ payload ∷ [];
    are = history_more config opening history batch so.payloads payload so.are fit is;
    unanswered_fits = fit;
    size = omega (arith, size_is, so.size, size_more so.payloads payload short);
    ends = subst (λ (p : List ℕ). EndsSo Settled tears new may_leave (so.payloads ++ payload ∷ []) p) is (ends so.payloads ((moves_field (counts_of config)).spell unanswered) so.size so.ends);
    replayed = made_is ∙ ap (λ (b : ServerSeen). replay b batch) so.replayed ∙ sym (replay_more opening history batch);
  }

-- what a crash leaves
pub crashes_lose : (config : Configuration) (opening : ServerSeen) (tears : List ℕ → List ℕ → Type 0) (end : End) (seen : List ℕ) (may_leave : Ending → List ℕ → Type 0) (whole : ℕ) (books : ServerSeen) (history unanswered : List Move)
    → StandsFor config opening tears end seen may_leave whole books history unanswered → LosesNothing config opening tears may_leave history unanswered
crashes_lose config opening tears Settled seen may_leave whole books history unanswered so ending premise left reached =
    inl (record { payloads = so.payloads; has = whole_has left so.payloads so.ends.fit (so.ends.durable ending left reached ∙ so.ends.whole); are = so.are })
crashes_lose config opening tears Unsettled seen may_leave whole books history unanswered so ending premise left reached =
    by (so.ends.left ending premise left reached)
  where
    by : IsBeforeOrAfter so.payloads ((moves_field (counts_of config)).spell unanswered) left → HasHistoryOr config opening history unanswered left
    by (inl has) = inl (record { payloads = so.payloads; has = has; are = so.are })
    by (inr has) = inr (record {
      payloads = so.payloads ++ (moves_field (counts_of config)).spell unanswered ∷ [];
      has = has;
      are = history_more config opening history unanswered so.payloads ((moves_field (counts_of config)).spell unanswered) so.are so.unanswered_fits refl;
    })
