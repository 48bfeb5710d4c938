-- What is written bit by bit.
use Rattle.std.proofs.Common.{◌≡◌, ℕ, List, ◌++◌, ap, ◌∙◌, append_assoc}

-- what was written after a text, and then a bit more
one_more : (old before new all more : List ℕ) → before ≡ old ++ all → new ≡ before ++ more → new ≡ old ++ (all ++ more)
one_more old before new all more so_far last = last ∙ ap (λ text. text ++ more) so_far ∙ append_assoc old all more

-- the seven bits of a line
pub line_written : (old t1 t2 t3 t4 t5 t6 new x1 x2 x3 x4 x5 x6 x7 : List ℕ)
    → t1 ≡ old ++ x1 → t2 ≡ t1 ++ x2 → t3 ≡ t2 ++ x3 → t4 ≡ t3 ++ x4 → t5 ≡ t4 ++ x5 → t6 ≡ t5 ++ x6 → new ≡ t6 ++ x7
    → new ≡ old ++ (x1 ++ x2 ++ x3 ++ x4 ++ x5 ++ x6 ++ x7)
line_written old t1 t2 t3 t4 t5 t6 new x1 x2 x3 x4 x5 x6 x7 h1 h2 h3 h4 h5 h6 h7 =
    one_more old t6 new _ x7
    (one_more old t5 t6 _ x6
    (one_more old t4 t5 _ x5
    (one_more old t3 t4 _ x4
    (one_more old t2 t3 _ x3
    (one_more old t1 t2 x1 x2 h1 h2) h3) h4) h5) h6) h7
