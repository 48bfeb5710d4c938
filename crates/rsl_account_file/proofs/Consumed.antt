-- What a reader gave so far.
use Rattle.std.proofs.Common.{◌≡◌, ℕ, ◌<◌, List, [], ◌++◌, length, Option, Some, None, IfSome, refl, sym, ap, ◌∙◌, append_assoc, arith}
use Rattle.std.specs.Io.KnownBytes.{Consumes, IsAtEnd, Keeps}
use Rattle.std.proofs.lemmas.List.{append-nil, length-append}

pub consumed_none : (from : Option (List ℕ)) (text : List ℕ) → text ≡ [] → Consumes from from text
consumed_none None text e = tt
consumed_none (Some given) text e = rw e refl

pub consumed_more : (from old new : Option (List ℕ)) (text piece : List ℕ) → Consumes from old text → Consumes old new piece → Consumes from new (text ++ piece)
consumed_more None old new text piece so_far more = tt
consumed_more (Some given) None new text piece so_far more = absurd so_far
consumed_more (Some given) (Some rest) None text piece so_far more = absurd more
consumed_more (Some given) (Some rest) (Some left) text piece so_far more = so_far ∙ ap (λ (x : List ℕ). text ++ x) more ∙ sym (append_assoc text piece left)

pub consumed_kept : (from old new : Option (List ℕ)) (text : List ℕ) → Consumes from old text → Keeps old new → Consumes from new text
consumed_kept None old new text so_far same = tt
consumed_kept (Some given) None new text so_far same = absurd so_far
consumed_kept (Some given) (Some rest) None text so_far same = absurd same
consumed_kept (Some given) (Some rest) (Some left) text so_far same = rw same so_far

pub consumed_all : (from new : Option (List ℕ)) (text : List ℕ) → Consumes from new text → IsAtEnd new → IfSome from (λ given. text ≡ given)
consumed_all None new text so_far end = tt
consumed_all (Some given) None text so_far end = absurd so_far
consumed_all (Some given) (Some rest) text so_far end = sym (so_far ∙ ap (λ (x : List ℕ). text ++ x) end ∙ append-nil text)

pub consumed_over : (from new : Option (List ℕ)) (text : List ℕ) (most : ℕ) → Consumes from new text → most < length text → IfSome from (λ given. most < length given)
consumed_over None new text most so_far over = tt
consumed_over (Some given) None text most so_far over = absurd so_far
consumed_over (Some given) (Some rest) text most so_far over = rw so_far (omega (arith, over, length-append text rest))

pub ruleset consumed_steps = (consumed_none, consumed_more, consumed_kept, consumed_all, consumed_over)
