use Rattle.std.proofs.Common.{◌-◌, ◌++◌, List, ℕ, ap, ◌∙◌, drop, length}
use Rattle.std.proofs.Math.Seq.{drop-append_seam}
use Rattle.std.specs.Prelude.{codes}
use Rattle.rld_control.proofs.Ends.{beginning_found, end_found, no_beginning, no_end}
use Rattle.rld_control.proofs.reply.Reply.of.Goals as goal

pub returns-in-Some : goal.returns-in-Some
returns-in-Some c =
    let found = c.in-Some.ensures.cases in
    end_found c.args.octets.now (codes "ok\n") c.in-Some.lines.now (length c.args.octets.now - length (codes "ok\n")) found.0 found.1

pub returns-in_default-strip_prefix : goal.returns-in_default-strip_prefix
returns-in_default-strip_prefix c = λ text. (
  no_end c.args.octets.now (codes "ok\n") text c.in_default.ensures.cases,
  no_beginning c.args.octets.now (codes "error ") (text ++ codes "\n") c.in_default-strip_prefix.ensures.cases,
)

pub returns-in-Some-strip_suffix : goal.returns-in-Some-strip_suffix
returns-in-Some-strip_suffix c =
    let first = c.in-Some-strip_prefix.ensures.cases in
    let last = c.in-Some-strip_suffix.ensures.cases in
    beginning_found c.args.octets.now (codes "error ") c.in-Some-strip_prefix.rest.now (length (codes "error ")) first.0 first.1
    ∙ ap (λ (rest : List ℕ). codes "error " ++ rest) (end_found c.in-Some-strip_prefix.rest.now (codes "\n") c.in-Some-strip_suffix.text.now (length c.in-Some-strip_prefix.rest.now - length (codes "\n")) last.0 last.1)

pub returns-in-None : goal.returns-in-None
returns-in-None c = λ text. (
  no_end c.args.octets.now (codes "ok\n") text c.in_default.ensures.cases,
  λ is.
      no_end c.in-Some-strip_prefix.rest.now (codes "\n") text c.in-None.ensures.cases
      (c.in-Some-strip_prefix.ensures.cases.1 ∙ (ap (λ (all : List ℕ). drop (length (codes "error ")) all) is ∙ drop-append_seam (codes "error ") (text ++ codes "\n"))),
)
