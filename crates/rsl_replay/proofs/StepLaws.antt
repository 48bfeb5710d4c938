-- Steps that are written one after another.
use Rattle.std.proofs.Common.{◌≡◌, ℕ, ◌+◌, ◌<◌, List, [], ◌∷◌, ◌++◌, map, length, get_or, take, sym, ap, ◌∙◌, append_assoc, arith}
use Rattle.std.specs.List.{flat_map, range_with_len}
use Rattle.std.proofs.lemmas.List.{take_more, append-nil}
use Rattle.std.proofs.lemmas.List.Concat.{flat_map-append}
use Rattle.std.proofs.lemmas.List.FromFn.{map-range_with_len_more}

-- one shard more
pub shard_more : {A : Type 0} (step : ℕ → A) (before so_far after : List A) (shard : ℕ) → so_far ≡ before ++ map step (range_with_len 0 shard)
    → after ≡ so_far ++ step shard ∷ [] → after ≡ before ++ map step (range_with_len 0 (shard + 1))
shard_more step before so_far after shard e more =
    more ∙ ap (λ (x : List _). x ++ step shard ∷ []) e ∙ append_assoc before (map step (range_with_len 0 shard)) (step shard ∷ [])
    ∙ ap (λ (x : List _). before ++ x) (sym (map-range_with_len_more step 0 shard shard (omega arith)))

-- one line more
pub line_more : {X A : Type 0} (steps : X → List A) (lines : List X) (line : X) (so_far after : List A) (index : ℕ) → index < length lines → line ≡ get_or lines index line
    → so_far ≡ flat_map steps (take index lines) → after ≡ so_far ++ steps line → after ≡ flat_map steps (take (index + 1) lines)
line_more steps lines line so_far after index lt is e more =
    more ∙ ap (λ (x : List _). x ++ steps line) e ∙ ap (λ (x : List _). flat_map steps (take index lines) ++ x) (sym (append-nil (steps line)))
    ∙ sym (flat_map-append steps (take index lines) (line ∷ []))
    ∙ ap (λ (x : _). flat_map steps (take index lines ++ x ∷ [])) is
    ∙ ap (flat_map steps) (sym (take_more lines index line lt))
