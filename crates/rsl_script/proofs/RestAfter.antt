-- `after` gives what is left where a beginning is stripped.
use Rattle.std.proofs.Common.{◌≡◌, ℕ, List, ◌++◌, length, take, drop, Bool, true, false, Option, None, Some, Bor, refl, sym, ap, ◌∙◌, take-append-drop}
use Rattle.std.proofs.lemmas.List.{take_at}
use Rattle.std.proofs.lemmas.Slice.Eq.{bytes_eq-Decides}
use Rattle.std.specs.Option.{MatchOption, option_copied}
use Rattle.std.specs.Str.{bytes_eq}
use Rattle.std.specs.Str.Pattern.{LacksTextAt, StripsPrefix, FindsTextPrefix}
use Rattle.rsl_script.specs.Values.{rest_after}

rest_after_there : (beginning word rest : List ℕ) → word ≡ beginning ++ rest → rest_after beginning word ≡ Some (drop (length beginning) word)
unfolding rest_after
rest_after_there beginning word rest e =
    let front : take (length beginning) word ≡ beginning = ap (take (length beginning)) e ∙ take_at beginning rest (length beginning) refl in
    rw ((bytes_eq-Decides (take (length beginning) word) beginning).1 front)

rest_after_lacking : (beginning word : List ℕ) → LacksTextAt beginning word 0 → rest_after beginning word ≡ None
unfolding rest_after
rest_after_lacking beginning word lacks = by (bytes_eq (take (length beginning) word) beginning) refl
  where
    by : (b : Bool) → bytes_eq (take (length beginning) word) beginning ≡ b → rest_after beginning word ≡ None
    by true e = absurd (lacks (drop (length beginning) word) (sym (take-append-drop (length beginning) word) ∙ ap (λ front. front ++ drop (length beginning) word) ((bytes_eq-Decides _ _).0 e)))
    by false e = rw e

pub rest_after_stripped : (beginning word : List ℕ) (r : Option (Bor (List ℕ))) → MatchOption r (LacksTextAt beginning word 0) (λ x. StripsPrefix (FindsTextPrefix beginning) word x.now) → option_copied r ≡ rest_after beginning word
rest_after_stripped beginning word None h = sym (rest_after_lacking beginning word h)
rest_after_stripped beginning word (Some rest) h =
    ap Some (h.2 ∙ ap (λ n. drop n word) h.1.0) ∙ sym (rest_after_there beginning word (drop h.0 word) h.1.1)
