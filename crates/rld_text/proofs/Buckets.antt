-- The lines of one bucket more.
use Rattle.std.proofs.Common.{◌≡◌, ℕ, suc, zero, ◌+◌, ◌^◌, List, [], ◌∷◌, ◌++◌, ap, ◌∙◌, sym, append_assoc, append-nil, arith}
use Rattle.std.specs.List.{flat_map, range_with_len}
use Rattle.std.proofs.lemmas.List.Concat.{flat_map-append}
use Rattle.rld_counts.specs.Histogram.{Times}
use Rattle.rld_text.specs.Metrics.{bucket_line, bucket_lines, up_to}
use Rattle.rld_text.specs.Text.{seconds}

suc_more : (size : ℕ) → suc size + 1 ≡ suc (size + 1)
suc_more size = omega arith

range_more : (from size : ℕ) → range_with_len from (size + 1) ≡ range_with_len from size ++ (from + size) ∷ []
range_more from zero = ap (λ (n : ℕ). n ∷ []) (omega arith)
range_more from (suc size) =
    ap (range_with_len from) (suc_more size)
    ∙ ap (λ (l : List ℕ). from ∷ l) (range_more (from + 1) size)
    ∙ ap (λ (n : ℕ). from ∷ (range_with_len (from + 1) size ++ n ∷ [])) (omega arith)

lines_more : (port : List ℕ) (times : Times) (bucket : ℕ)
    → bucket_lines port times (bucket + 1) ≡ bucket_lines port times bucket ++ bucket_line port (seconds (2 ^ bucket)) (up_to times bucket)
unfolding bucket_lines
lines_more port times bucket =
    ap (flat_map (λ bucket. bucket_line port (seconds (2 ^ bucket)) (up_to times bucket))) (range_more 0 bucket ∙ ap (λ (n : ℕ). range_with_len 0 bucket ++ n ∷ []) (omega arith))
    ∙ flat_map-append (λ bucket. bucket_line port (seconds (2 ^ bucket)) (up_to times bucket)) (range_with_len 0 bucket) (bucket ∷ [])
    ∙ ap (λ (l : List ℕ). bucket_lines port times bucket ++ l) (append-nil (bucket_line port (seconds (2 ^ bucket)) (up_to times bucket)))

pub bucket_lines_more : (port : List ℕ) (times : Times) (bucket : ℕ) (old before new : List ℕ)
    → before ≡ old ++ bucket_lines port times bucket → new ≡ before ++ bucket_line port (seconds (2 ^ bucket)) (up_to times bucket)
    → new ≡ old ++ bucket_lines port times (bucket + 1)
bucket_lines_more port times bucket old before new was made =
    made
    ∙ ap (λ (l : List ℕ). l ++ bucket_line port (seconds (2 ^ bucket)) (up_to times bucket)) was
    ∙ append_assoc old (bucket_lines port times bucket) (bucket_line port (seconds (2 ^ bucket)) (up_to times bucket))
    ∙ ap (λ (l : List ℕ). old ++ l) (sym (lines_more port times bucket))

pub bucket_lines_none : (port : List ℕ) (times : Times) (old : List ℕ) → old ≡ old ++ bucket_lines port times 0
unfolding bucket_lines
bucket_lines_none port times old = sym (append-nil old)
