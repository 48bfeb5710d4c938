-- What a worker that makes ticks leaves in its pass.
use Rattle.std.specs.Prelude.{◌≡◌, ℕ, ◌+◌, ◌<◌, ◌≤◌, ◌⊎◌, Bool, true, false, ◌==◌, ◌&&◌, List, [], ◌∷◌, ◌++◌, Option, count_by}
use Rattle.rsl_service.specs.Receipts.{AreNoted, count_of}
use Rattle.rsl_record.specs.declared.receipt.Receipt.{Receipt}
use Rattle.rsl_shard.specs.declared.moved.Move.{Move}
use Rattle.rsl_shard.specs.declared.moved.Move.TheVariants.{Tick}
use Rattle.rsl_port.specs.Shown.{HasShown}

abbrev pub is_tick : Move → Bool
is_tick (Tick moment) = true
is_tick _ = false

-- the number of receipts of ticks of a shard
unfoldable pub ticks_of : (shard : ℕ) → List Receipt → ℕ
ticks_of shard receipts =
    count_by (λ (receipt : Receipt). receipt.shard == shard && is_tick receipt.line.moved) receipts

-- each of `shards` shards has at least `least` ticks more, and no shard has over `most` receipts
-- more
pub record AreTicked (shards least most : ℕ) (old new : List Receipt) : Type 0 where
  pub ticks : (shard : ℕ) → shard < shards → ticks_of shard old + least ≤ ticks_of shard new
  pub receipts : (shard : ℕ) → shard < shards → count_of shard old + least ≤ count_of shard new
  pub few : (shard : ℕ) → count_of shard new ≤ count_of shard old + most

-- `turns` turns were taken, each at the moment that the clock showed for it. In `done` of them
-- every shard has its tick of that moment; in each other the first shards have it, fewer than all.
pub data Ticked (shards : ℕ) (old : List Receipt)
    : (done turns : ℕ) → (shown : List ℕ) → (new : List Receipt) → Type 0 where
  NoTurn : Ticked shards old 0 0 [] old
  ThenAll : {done turns : ℕ} {shown : List ℕ} {before new : List Receipt}
      → Ticked shards old done turns shown before
      → (moment : ℕ) → AreNoted shards (Tick moment) before new
      → Ticked shards old (done + 1) (turns + 1) (shown ++ moment ∷ []) new
  ThenSome : {done turns : ℕ} {shown : List ℕ} {before new : List Receipt}
      → Ticked shards old done turns shown before
      → (moment swept : ℕ) → swept < shards → AreNoted swept (Tick moment) before new
      → Ticked shards old done (turns + 1) (shown ++ moment ∷ []) new

-- one turn, which is done or not: a receipt of every shard or of fewer
pub record IsTurn (shards done : ℕ) (old_shown new_shown : Option (List ℕ))
    (old new : List Receipt) : Type 0 where
  pub moment : ℕ
  pub read : HasShown (moment ∷ []) old_shown new_shown
  pub ticked : ((done ≡ 1) × AreNoted shards (Tick moment) old new)
      ⊎ ((done ≡ 0) × (swept : ℕ) × (swept < shards) × AreNoted swept (Tick moment) old new)

-- so many pauses, each after a turn: all but the last answered that another turn follows, and the
-- last answered whether one does
pub data Paused : (turns : ℕ) → (goes_on : Bool) → (said : List Bool) → Type 0 where
  NoPause : Paused 0 true []
  ThenPause : {turns : ℕ} {said : List Bool} → Paused turns true said
      → (goes_on : Bool) → Paused (turns + 1) goes_on (said ++ goes_on ∷ [])

-- The turns of a worker: at most `most`, with a pause after each, and none after a pause that
-- answered that there is to be none. It has fewer only for such a pause.
pub record HasWorked (shards : ℕ) (done most : ℕ) (old_said new_said : Option (List Bool))
    (old_shown new_shown : Option (List ℕ)) (old new : List Receipt) : Type 0 where
  pub turns : ℕ
  pub goes_on : Bool
  pub said : List Bool
  pub shown : List ℕ
  pub few : turns ≤ most
  pub early : turns < most → goes_on ≡ false
  pub paused : Paused turns goes_on said
  pub answered : HasShown said old_said new_said
  pub read : HasShown shown old_shown new_shown
  pub ticked : Ticked shards old done turns shown new
