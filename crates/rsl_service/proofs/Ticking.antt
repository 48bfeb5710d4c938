-- How ticks of every shard count.
use Rattle.std.proofs.Common.{◌≡◌, ℕ, zero, suc, ◌+◌, ◌<◌, ◌≤◌, Bool, true, false, cond, List, [], ◌∷◌, ◌++◌, Option, refl, sym, ap, subst, ◌∙◌, arith, ◌⊎◌, inl, inr}
use Rattle.std.specs.Prelude.{◌==◌, ◌&&◌, count_by}
use Rattle.std.proofs.lemmas.Bool.{eq-eqb, ne_eqb, cases_lt}
use Rattle.std.proofs.Math.Bool.{and-true}
use Rattle.std.proofs.Math.Nat.{eq-or-lt_of_le}
use Rattle.std.proofs.lemmas.List.Sums.{sum_by-append, sum_by-cons}
use Rattle.rsl_service.specs.Receipts.{AreNoted, HasOneMore, count_of}
use Rattle.rsl_record.specs.declared.receipt.Receipt.{Receipt}
use Rattle.rsl_shard.specs.declared.moved.Move.{Move}
use Rattle.rsl_shard.specs.declared.moved.Move.TheVariants as moves
use Rattle.rsl_port.proofs.Callers.{more_shown, none_shown}
use Rattle.rsl_port.specs.Shown.{HasShown}
use Rattle.rsl_service.specs.Ticked.{AreTicked, HasWorked, IsTurn, Paused, NoPause, ThenPause, Ticked, NoTurn, ThenAll, ThenSome, is_tick, ticks_of}

-- with one receipt more
count_more : (counts : Receipt → Bool) (receipts : List Receipt) (more : Receipt) (b : Bool)
    → counts more ≡ b
    → count_by counts (receipts ++ more ∷ []) ≡ count_by counts receipts + cond b 1 0
count_more counts receipts more b is =
    sum_by-append (λ (receipt : Receipt). cond (counts receipt) 1 0) receipts (more ∷ [])
    ∙ ap (λ n. count_by counts receipts + n)
    (sum_by-cons (λ (receipt : Receipt). cond (counts receipt) 1 0) more []
    ∙ ap (λ b. cond b 1 0 + 0) is ∙ omega arith)

-- of receipts with this move, exactly those of one shard count
abbrev CountsShard : (shard : ℕ) → Move → (Receipt → Bool) → Type 0
CountsShard shard moved counts =
    (receipt : Receipt) → receipt.line.moved ≡ moved → counts receipt ≡ (receipt.shard == shard)

-- a receipt of the shard, or of another, more
one_more : (shard own : ℕ) (moved : Move) (counts : Receipt → Bool) (b : Bool)
    (before new : List Receipt) → CountsShard shard moved counts → (own == shard) ≡ b
    → HasOneMore own moved before new
    → count_by counts new ≡ count_by counts before + cond b 1 0
one_more shard own moved counts b before new by is more =
    let receipt : Receipt = record {
      shard = own;
      position = more.noted.position;
      line = record { moved = moved; decision = more.decision };
    } in
    ap (λ xs. count_by counts xs) more.noted.noted
    ∙ count_more counts before receipt b (by receipt refl ∙ is)

-- a move of the shards below this one does not count
each_below : (shard : ℕ) (moved : Move) (counts : Receipt → Bool) → CountsShard shard moved counts
    → (shards : ℕ) (old new : List Receipt) → shards ≤ shard → AreNoted shards moved old new
    → count_by counts new ≡ count_by counts old
unfolding AreNoted
each_below shard moved counts by zero old new below noted = ap (λ xs. count_by counts xs) noted
each_below shard moved counts by (suc own) old new below (before, so_far, more) =
    one_more shard own moved counts false before new by (ne_eqb own shard (λ same. omega (arith, same, below))) more
    ∙ omega arith
    ∙ each_below shard moved counts by own old before (omega (arith, below)) so_far

-- one of the shards up to it counts once
each_with : (shard : ℕ) (moved : Move) (counts : Receipt → Bool) → CountsShard shard moved counts
    → (shards : ℕ) (old new : List Receipt) → shard < shards → AreNoted shards moved old new
    → count_by counts new ≡ count_by counts old + 1
unfolding AreNoted
each_with shard moved counts by zero old new above noted = absurd (omega (arith, above))
each_with shard moved counts by (suc own) old new above (before, so_far, more) =
    last (each_with shard moved counts by own old before) (eq-or-lt_of_le (omega (arith, above)))
  where
    last : (shard < own → AreNoted own moved old before → count_by counts before ≡ count_by counts old + 1)
        → (shard ≡ own) ⊎ (shard < own) → count_by counts new ≡ count_by counts old + 1
    last earlier_counts (inl same) =
        one_more shard own moved counts true before new by (eq-eqb own shard (sym same)) more
        ∙ ap (λ n. n + 1) (each_below shard moved counts by own old before (omega (arith, same)) so_far)
    last earlier_counts (inr earlier) =
        one_more shard own moved counts false before new by (ne_eqb own shard (λ same. omega (arith, same, earlier))) more
        ∙ omega arith
        ∙ earlier_counts earlier so_far

-- so at most one counts, and none is lost
between : (shard : ℕ) (moved : Move) (counts : Receipt → Bool) → CountsShard shard moved counts
    → (shards : ℕ) (old new : List Receipt) → AreNoted shards moved old new
    → (count_by counts old ≤ count_by counts new) × (count_by counts new ≤ count_by counts old + 1)
between shard moved counts by shards old new noted = placed (cases_lt shard shards)
  where
    placed : (shard < shards) ⊎ (shards ≤ shard)
        → (count_by counts old ≤ count_by counts new) × (count_by counts new ≤ count_by counts old + 1)
    placed (inl there) = let e = each_with shard moved counts by shards old new there noted in (omega (arith, e), omega (arith, e))
    placed (inr missing) = let e = each_below shard moved counts by shards old new missing noted in (omega (arith, e), omega (arith, e))

-- what counts the receipts of a shard, and its ticks
by_shard : (shard : ℕ) (moved : Move) → CountsShard shard moved (λ receipt. receipt.shard == shard)
by_shard shard moved receipt is = refl

by_tick : (shard moment : ℕ)
    → CountsShard shard (moves.Tick moment) (λ receipt. receipt.shard == shard && is_tick receipt.line.moved)
by_tick shard moment receipt is =
    ap (λ moved. receipt.shard == shard && is_tick moved) is ∙ and-true (receipt.shard == shard)

-- after a tick of every shard
pub all_ticked : (shards moment : ℕ) (old new : List Receipt)
    → AreNoted shards (moves.Tick moment) old new → AreTicked shards 1 1 old new
unfolding ticks_of count_of
all_ticked shards moment old new noted = record {
  ticks = λ shard there. let e = each_with shard (moves.Tick moment) _ (by_tick shard moment) shards old new there noted in omega (arith, e);
  receipts = λ shard there. let e = each_with shard (moves.Tick moment) _ (by_shard shard (moves.Tick moment)) shards old new there noted in omega (arith, e);
  few = λ shard. (between shard (moves.Tick moment) _ (by_shard shard (moves.Tick moment)) shards old new noted).1;
}

-- after a tick of the first shards, before a fault
pub some_ticked : (shards swept moment : ℕ) (old new : List Receipt)
    → AreNoted swept (moves.Tick moment) old new → AreTicked shards 0 1 old new
unfolding ticks_of count_of
some_ticked shards swept moment old new noted = record {
  ticks = λ shard there. let e = (between shard (moves.Tick moment) _ (by_tick shard moment) swept old new noted).0 in omega (arith, e);
  receipts = λ shard there. let e = (between shard (moves.Tick moment) _ (by_shard shard (moves.Tick moment)) swept old new noted).0 in omega (arith, e);
  few = λ shard. (between shard (moves.Tick moment) _ (by_shard shard (moves.Tick moment)) swept old new noted).1;
}

-- before the first turn
pub none_ticked : (shards : ℕ) (old : List Receipt) → AreTicked shards 0 0 old old
none_ticked shards old = record {
  ticks = λ shard there. omega arith;
  receipts = λ shard there. omega arith;
  few = λ shard. omega arith;
}

-- after a turn more
pub more_ticked : (shards least more most next : ℕ) (old mid new : List Receipt) → next ≡ most + 1
    → AreTicked shards least most old mid → AreTicked shards more 1 mid new
    → AreTicked shards (least + more) next old new
more_ticked shards least more most next old mid new is so_far then = record {
  ticks = λ shard there. omega (arith, so_far.ticks shard there, then.ticks shard there);
  receipts = λ shard there. omega (arith, so_far.receipts shard there, then.receipts shard there);
  few = λ shard. omega (arith, is, so_far.few shard, then.few shard);
}

-- fewer turns than there might have been
pub fewer_ticked : (shards least most turns : ℕ) (old new : List Receipt) → most ≤ turns
    → AreTicked shards least most old new → AreTicked shards least turns old new
fewer_ticked shards least most turns old new few ticked = record {
  ticks = ticked.ticks;
  receipts = ticked.receipts;
  few = λ shard. omega (arith, few, ticked.few shard);
}

-- so many turns were taken, at moments that the clock has shown
pub record Taken (shards done turns : ℕ) (old_shown new_shown : Option (List ℕ))
    (old new : List Receipt) : Type 0 where
  pub shown : List ℕ
  pub read : HasShown shown old_shown new_shown
  pub ticked : Ticked shards old done turns shown new

-- before the first turn
pub none_taken : (shards : ℕ) (shown : Option (List ℕ)) (old : List Receipt)
    → Taken shards 0 0 shown shown old old
none_taken shards shown old = record {
  shown = [];
  read = none_shown shown;
  ticked = NoTurn;
}

-- after a turn more
pub one_taken : (shards done more turns : ℕ) (old_shown mid_shown new_shown : Option (List ℕ))
    (old mid new : List Receipt) → Taken shards done turns old_shown mid_shown old mid
    → IsTurn shards more mid_shown new_shown mid new
    → Taken shards (done + more) (turns + 1) old_shown new_shown old new
one_taken shards done more turns old_shown mid_shown new_shown old mid new so_far turn = record {
  shown = so_far.shown ++ turn.moment ∷ [];
  read = more_shown so_far.shown (turn.moment ∷ []) old_shown mid_shown new_shown so_far.read turn.read;
  ticked = by turn.ticked;
}
  where
    by : ((more ≡ 1) × AreNoted shards (moves.Tick turn.moment) mid new)
        ⊎ ((more ≡ 0) × (swept : ℕ) × (swept < shards) × AreNoted swept (moves.Tick turn.moment) mid new)
        → Ticked shards old (done + more) (turns + 1) (so_far.shown ++ turn.moment ∷ []) new
    by (inl (all, noted)) =
        subst (λ n. Ticked shards old (done + n) (turns + 1) (so_far.shown ++ turn.moment ∷ []) new) (sym all)
        (ThenAll so_far.ticked turn.moment noted)
    by (inr (none, swept, fewer, noted)) =
        subst (λ n. Ticked shards old n (turns + 1) (so_far.shown ++ turn.moment ∷ []) new) (omega (arith, none))
        (ThenSome so_far.ticked turn.moment swept fewer noted)

-- so many pauses were made, and the last answered whether another turn follows
pub record HasPaused (turns : ℕ) (goes_on : Bool) (old_said new_said : Option (List Bool)) : Type 0 where
  pub said : List Bool
  pub answered : HasShown said old_said new_said
  pub paused : Paused turns goes_on said

-- before the first pause
pub none_paused : (said : Option (List Bool)) → HasPaused 0 true said said
none_paused said = record { said = []; answered = none_shown said; paused = NoPause }

-- after a pause more
pub one_paused : (turns : ℕ) (goes_on : Bool) (old_said mid_said new_said : Option (List Bool))
    → HasPaused turns true old_said mid_said → HasShown (goes_on ∷ []) mid_said new_said
    → HasPaused (turns + 1) goes_on old_said new_said
one_paused turns goes_on old_said mid_said new_said so_far answered = record {
  said = so_far.said ++ goes_on ∷ [];
  answered = more_shown so_far.said (goes_on ∷ []) old_said mid_said new_said so_far.answered answered;
  paused = ThenPause so_far.paused goes_on;
}

-- a worker that has taken all its turns, or that a pause has ended
pub has_worked : (shards done turns most : ℕ) (goes_on : Bool) (old_said new_said : Option (List Bool))
    (old_shown new_shown : Option (List ℕ)) (old new : List Receipt) → turns ≤ most
    → (turns < most → goes_on ≡ false)
    → HasPaused turns goes_on old_said new_said
    → Taken shards done turns old_shown new_shown old new
    → HasWorked shards done most old_said new_said old_shown new_shown old new
has_worked shards done turns most goes_on old_said new_said old_shown new_shown old new few early paused taken = record {
  turns = turns;
  goes_on = goes_on;
  said = paused.said;
  shown = taken.shown;
  few = few;
  early = early;
  paused = paused.paused;
  answered = paused.answered;
  read = taken.read;
  ticked = taken.ticked;
}

pub ruleset ticking = (all_ticked, some_ticked, none_ticked, more_ticked, fewer_ticked)
