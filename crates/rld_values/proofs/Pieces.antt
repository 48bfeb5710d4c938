-- What is written piece by piece.
use Rattle.std.proofs.Common.{◌≡◌, ℕ, List, ◌++◌, ap, ◌∙◌, append_assoc}

pub written_2 : (old t1 new x1 x2 : List ℕ) → t1 ≡ old ++ x1 → new ≡ t1 ++ x2 → new ≡ old ++ (x1 ++ x2)
written_2 old t1 new x1 x2 first second = second ∙ ap (λ (l : List ℕ). l ++ x2) first ∙ append_assoc old x1 x2

pub written_3 : (old t1 t2 new x1 x2 x3 : List ℕ)
    → t1 ≡ old ++ x1 → t2 ≡ t1 ++ x2 → new ≡ t2 ++ x3
    → new ≡ old ++ (x1 ++ (x2 ++ x3))
written_3 old t1 t2 new x1 x2 x3 h1 h2 h3 =
    written_2 old t1 new x1 _ h1 (written_2 t1 t2 new x2 x3 h2 h3)

pub written_4 : (old t1 t2 t3 new x1 x2 x3 x4 : List ℕ)
    → t1 ≡ old ++ x1 → t2 ≡ t1 ++ x2 → t3 ≡ t2 ++ x3 → new ≡ t3 ++ x4
    → new ≡ old ++ (x1 ++ (x2 ++ (x3 ++ x4)))
written_4 old t1 t2 t3 new x1 x2 x3 x4 h1 h2 h3 h4 =
    written_2 old t1 new x1 _ h1 (written_3 t1 t2 t3 new x2 x3 x4 h2 h3 h4)

pub written_5 : (old t1 t2 t3 t4 new x1 x2 x3 x4 x5 : List ℕ)
    → t1 ≡ old ++ x1 → t2 ≡ t1 ++ x2 → t3 ≡ t2 ++ x3 → t4 ≡ t3 ++ x4 → new ≡ t4 ++ x5
    → new ≡ old ++ (x1 ++ (x2 ++ (x3 ++ (x4 ++ x5))))
written_5 old t1 t2 t3 t4 new x1 x2 x3 x4 x5 h1 h2 h3 h4 h5 =
    written_2 old t1 new x1 _ h1 (written_4 t1 t2 t3 t4 new x2 x3 x4 x5 h2 h3 h4 h5)

pub written_6 : (old t1 t2 t3 t4 t5 new x1 x2 x3 x4 x5 x6 : List ℕ)
    → t1 ≡ old ++ x1 → t2 ≡ t1 ++ x2 → t3 ≡ t2 ++ x3 → t4 ≡ t3 ++ x4 → t5 ≡ t4 ++ x5 → new ≡ t5 ++ x6
    → new ≡ old ++ (x1 ++ (x2 ++ (x3 ++ (x4 ++ (x5 ++ x6)))))
written_6 old t1 t2 t3 t4 t5 new x1 x2 x3 x4 x5 x6 h1 h2 h3 h4 h5 h6 =
    written_2 old t1 new x1 _ h1 (written_5 t1 t2 t3 t4 t5 new x2 x3 x4 x5 x6 h2 h3 h4 h5 h6)

pub written_7 : (old t1 t2 t3 t4 t5 t6 new x1 x2 x3 x4 x5 x6 x7 : List ℕ)
    → t1 ≡ old ++ x1 → t2 ≡ t1 ++ x2 → t3 ≡ t2 ++ x3 → t4 ≡ t3 ++ x4 → t5 ≡ t4 ++ x5 → t6 ≡ t5 ++ x6 → new ≡ t6 ++ x7
    → new ≡ old ++ (x1 ++ (x2 ++ (x3 ++ (x4 ++ (x5 ++ (x6 ++ x7))))))
written_7 old t1 t2 t3 t4 t5 t6 new x1 x2 x3 x4 x5 x6 x7 h1 h2 h3 h4 h5 h6 h7 =
    written_2 old t1 new x1 _ h1 (written_6 t1 t2 t3 t4 t5 t6 new x2 x3 x4 x5 x6 x7 h2 h3 h4 h5 h6 h7)

pub written_8 : (old t1 t2 t3 t4 t5 t6 t7 new x1 x2 x3 x4 x5 x6 x7 x8 : List ℕ)
    → t1 ≡ old ++ x1 → t2 ≡ t1 ++ x2 → t3 ≡ t2 ++ x3 → t4 ≡ t3 ++ x4 → t5 ≡ t4 ++ x5 → t6 ≡ t5 ++ x6 → t7 ≡ t6 ++ x7 → new ≡ t7 ++ x8
    → new ≡ old ++ (x1 ++ (x2 ++ (x3 ++ (x4 ++ (x5 ++ (x6 ++ (x7 ++ x8)))))))
written_8 old t1 t2 t3 t4 t5 t6 t7 new x1 x2 x3 x4 x5 x6 x7 x8 h1 h2 h3 h4 h5 h6 h7 h8 =
    written_2 old t1 new x1 _ h1 (written_7 t1 t2 t3 t4 t5 t6 t7 new x2 x3 x4 x5 x6 x7 x8 h2 h3 h4 h5 h6 h7 h8)

pub written_9 : (old t1 t2 t3 t4 t5 t6 t7 t8 new x1 x2 x3 x4 x5 x6 x7 x8 x9 : List ℕ)
    → t1 ≡ old ++ x1 → t2 ≡ t1 ++ x2 → t3 ≡ t2 ++ x3 → t4 ≡ t3 ++ x4 → t5 ≡ t4 ++ x5 → t6 ≡ t5 ++ x6 → t7 ≡ t6 ++ x7 → t8 ≡ t7 ++ x8 → new ≡ t8 ++ x9
    → new ≡ old ++ (x1 ++ (x2 ++ (x3 ++ (x4 ++ (x5 ++ (x6 ++ (x7 ++ (x8 ++ x9))))))))
written_9 old t1 t2 t3 t4 t5 t6 t7 t8 new x1 x2 x3 x4 x5 x6 x7 x8 x9 h1 h2 h3 h4 h5 h6 h7 h8 h9 =
    written_2 old t1 new x1 _ h1 (written_8 t1 t2 t3 t4 t5 t6 t7 t8 new x2 x3 x4 x5 x6 x7 x8 x9 h2 h3 h4 h5 h6 h7 h8 h9)
