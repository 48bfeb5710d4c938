-- What is printed, one line after another.
use Rattle.std.proofs.Common.{◌≡◌, ℕ, ◌+◌, ◌<◌, ◌≤◌, List, [], ◌∷◌, ◌++◌, length, get_or, take, drop, refl, sym, ap, ◌∙◌, append_assoc, arith, sum_by}
use Rattle.std.proofs.lemmas.List.{drop_more, drop_all, append-nil}
use Rattle.std.proofs.lemmas.List.Sums.{sum_by-drop_more}
use Rattle.rsl_accounts.specs.Configuration.{Configuration}
use Rattle.rsl_script.specs.declared.event_line.EventLine.{EventLine}
use Rattle.rsl_replay.specs.Lines.{line_text, word_of, printed_from}
use Rattle.rsl_replay.specs.Steps.{step_count}
use Rattle.rsl_steps.specs.declared.step.Answer.{Answer}

-- the answers that are left are those of the lines that are left
pub record IsLeft (config : Configuration) (lines : List EventLine) (index : ℕ) (rest : List Answer) (all : List ℕ) (text : List ℕ) : Type 0 where
  pub counted : length rest ≡ sum_by (step_count config) (drop index lines)
  pub printed : text ++ printed_from config (index + 1) (drop index lines) rest ≡ all

-- the first line that is left has its answers
pub left_has : (config : Configuration) (lines : List EventLine) (index : ℕ) (line : EventLine) (rest : List Answer) (all text : List ℕ) → index < length lines → line ≡ get_or lines index line
    → IsLeft config lines index rest all text → step_count config line ≤ length rest
left_has config lines index line rest all text lt is left =
    let counted = left.counted in
    omega (arith, counted, sum_by-drop_more (step_count config) lines index line lt, ap (step_count config) is)

printed_first : (config : Configuration) (number : ℕ) (line : EventLine) (lines : List EventLine) (rest : List Answer)
    → printed_from config number (line ∷ lines) rest ≡ line_text number (word_of line.happening (take (step_count config line) rest)) ++ printed_from config (number + 1) lines (drop (step_count config line) rest)
unfolding printed_from
printed_first config number line lines rest = refl

-- one line more
pub left_more : (config : Configuration) (lines : List EventLine) (index : ℕ) (line : EventLine) (rest own others : List Answer) (all text after : List ℕ) → index < length lines → line ≡ get_or lines index line
    → own ≡ take (step_count config line) rest → others ≡ drop (step_count config line) rest → length others + step_count config line ≡ length rest
    → after ≡ text ++ line_text (index + 1) (word_of line.happening own)
    → IsLeft config lines index rest all text → IsLeft config lines (index + 1) others all after
left_more config lines index line rest own others all text after lt is o e len written left =
    let counted = left.counted in
    let first : drop index lines ≡ line ∷ drop (index + 1) lines = drop_more lines index line lt ∙ ap (λ (x : EventLine). x ∷ drop (index + 1) lines) (sym is) in
    let step = printed_first config (index + 1) line (drop (index + 1) lines) rest in
    record {
      counted = omega (arith, len, counted, sum_by-drop_more (step_count config) lines index line lt, ap (step_count config) is);
      printed =
          (λ k. written k ++ printed_from config (index + 1 + 1) (drop (index + 1) lines) (e k))
          ∙ ap (λ (x : List Answer). (text ++ line_text (index + 1) (word_of line.happening x)) ++ printed_from config (index + 1 + 1) (drop (index + 1) lines) (drop (step_count config line) rest)) o
          ∙ append_assoc text (line_text (index + 1) (word_of line.happening (take (step_count config line) rest))) (printed_from config (index + 1 + 1) (drop (index + 1) lines) (drop (step_count config line) rest))
          ∙ ap (λ (x : List ℕ). text ++ x) (sym step)
          ∙ ap (λ (x : List EventLine). text ++ printed_from config (index + 1) x rest) (sym first)
          ∙ left.printed;
    }

printed_none : (config : Configuration) (number : ℕ) (lines : List EventLine) (rest : List Answer) → lines ≡ [] → printed_from config number lines rest ≡ []
unfolding printed_from
printed_none config number lines rest e = ap (λ (x : List EventLine). printed_from config number x rest) e

-- after the last line nothing is left
pub left_none : (config : Configuration) (lines : List EventLine) (index : ℕ) (rest : List Answer) (all text : List ℕ) → length lines ≤ index
    → IsLeft config lines index rest all text → text ≡ all
left_none config lines index rest all text past left =
    sym (append-nil text) ∙ ap (λ (x : List ℕ). text ++ x) (sym (printed_none config (index + 1) (drop index lines) rest (drop_all index lines past))) ∙ left.printed
