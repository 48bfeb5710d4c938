use Rattle.std.proofs.Common.{List, ℕ, sym, ap, ◌∙◌}
use Rattle.std.proofs.lemmas.Result.{err_from_is_err_and}
use Rattle.toml.specs.View.{view}
use Rattle.rsl_account_file.specs.File.{profile_in}
use Rattle.rsl_account_file.proofs.ReplyLists.{Entry, profile_fails, profile_read, profiles_end}
use Rattle.rsl_account_file.proofs.replies.profiles_in.Goals as goal

pub returns-in_err-profile-clause-fault : goal.returns-in_err-profile-clause-fault
returns-in_err-profile-clause-fault c =
    let p = err_from_is_err_and c.from_residual.result c.from_residual.ensures.1 in
    let e : Entry = (c.in-Some.name.now, c.in-Some.value.now) in
    rw (p.1, p.2)
    (λ other. profile_fails c.args.version c.args.names.now c.loop-name.profiles.items c.loop-name.name-iterator c.next.new.self e _ c.in-Some.ensures.steps c.loop-name.invariant c.in_err-profile.field-0.0
    (ap (λ (n : List ℕ). profile_in c.args.version c.args.names.now n (view e.1)) (sym c.as_str.ensures.value) ∙ c.in_err-profile.ensures.fault other))

pub loop-name-preserved : goal.loop-name-preserved
loop-name-preserved c =
    let e : Entry = (c.in-Some.name.now, c.in-Some.value.now) in
    profile_read c.args.version c.args.names.now c.loop-name.profiles.items c.loop-name.name-iterator c.next.new.self e _ c.in-Some.ensures.steps c.loop-name.invariant c.in_ok-profile.field-0 _
    (ap (λ (n : List ℕ). profile_in c.args.version c.args.names.now n (view e.1)) (sym c.as_str.ensures.value) ∙ c.in_ok-profile.ensures.ok)
    c.in_ok-push.ensures.items

pub returns-clause-ok : goal.returns-clause-ok
returns-clause-ok c = profiles_end c.args.version c.args.names.now c.loop-name.profiles.items c.loop-name.name-iterator _ c.in-None.ensures.steps.0 c.loop-name.invariant
