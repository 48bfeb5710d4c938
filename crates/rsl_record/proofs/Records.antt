-- The segments of a record, lent.
use Rattle.std.proofs.Common.{◌≡◌, List, [], ◌∷◌, ◌++◌, sym, ap, ◌∙◌, ℕ, ◌+◌, ◌<◌, ◌≤◌, ◌==◌, length, map, take, get_or}
use Rattle.std.proofs.lemmas.List.{flat_map_more, map_more, take_all}
use Rattle.std.proofs.lemmas.List.Elements.{filter-append}
use Rattle.rsl_record.specs.Segments.{lines_of, of_shard, shard_lines}
use Rattle.rsl_shard.specs.declared.line.Line.{Line}
use Rattle.rsl_shard.specs.declared.segment.Segment.{Segment}

-- those of both lists, one behind the other
pub of_both : {X : Type 0} (empty : List X) (f : X → Segment) (shard : ℕ) (given present middle last : List Segment) → empty ≡ []
    → middle ≡ map f empty ++ of_shard shard given → last ≡ middle ++ of_shard shard present → last ≡ of_shard shard (given ++ present)
of_both {X} empty f shard given present middle last none first second =
    second
    ∙ ap (λ (all : List Segment). all ++ of_shard shard present) (first ∙ ap (λ (all : List X). map f all ++ of_shard shard given) none)
    ∙ sym (filter-append (λ (s : Segment). s.shard == shard) given present)

-- the lines of one segment more
pub lines_more : {X : Type 0} (xs : List X) (f : X → Segment) (i : ℕ) (x : X) (now new more : List Line) → i < length xs → x ≡ get_or xs i x
    → now ≡ lines_of (map f (take i xs)) → new ≡ now ++ more → more ≡ (f x).lines.items → new ≡ lines_of (map f (take (i + 1) xs))
lines_more {X} xs f i x now new more within is so_far step are =
    step
    ∙ ap (λ (all : List Line). all ++ more) so_far
    ∙ ap (λ (all : List Line). lines_of (map f (take i xs)) ++ all) are
    ∙ flat_map_more (λ (s : Segment). s.lines.items) [] (map f (take i xs)) (f x)
    ∙ ap lines_of (ap (λ (y : X). map f (take i xs) ++ f y ∷ []) is ∙ sym (map_more f xs i x within))

pub lines_done : {X : Type 0} (xs : List X) (f : X → Segment) (i : ℕ) (now : List Line) → length xs ≤ i → now ≡ lines_of (map f (take i xs))
    → now ≡ lines_of (map f xs)
lines_done {X} xs f i now past so_far = so_far ∙ ap (λ (all : List X). lines_of (map f all)) (take_all i xs past)

-- the lines of a shard's segments are the shard's
pub lines_are : {X : Type 0} (lent items : List X) (f : X → Segment) (shard : ℕ) (all : List Segment) (lines : List Line) → lent ≡ items → map f items ≡ of_shard shard all
    → lines ≡ lines_of (map f lent) → lines ≡ shard_lines shard all
lines_are {X} lent items f shard all lines same are is = is ∙ ap lines_of (ap (map f) same ∙ are)
