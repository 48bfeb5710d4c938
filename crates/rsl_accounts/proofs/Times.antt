-- Accounts get the times of the settings one by one.
use Rattle.std.proofs.Common.{◌≡◌, ℕ, Option, ◌+◌, ◌<◌, List, ◌++◌, map, length, get_or, set, take, drop, sym, ap, ◌∙◌}
use Rattle.std.proofs.lemmas.List.Edits.{map_over_more}
use Rattle.rsl_accounts.specs.declared.entry.Entry.{Entry}
use Rattle.rsl_accounts.specs.declared.rules.Rules.{Rules}
use Rattle.rsl_accounts.specs.declared.settings.Settings.{Settings}
use Rattle.rsl_accounts.specs.Configuration.{with_times}
use Rattle.rsl_accounts.specs.Settings.{rules_of, interim_of}

pub times_more : (settings : Settings) (xs ys : List Entry) (i : ℕ) (x : Entry) (rules : Rules) (interim : Option ℕ) → i < length xs → ys ≡ map (with_times settings) (take i xs) ++ drop i xs → x ≡ get_or ys i x
    → rules ≡ rules_of settings (get_or ys i x)
    → interim ≡ interim_of settings (record (get_or ys i x) { rules = rules })
    → set ys i (record (get_or ys i x) { rules = rules; interim = interim }) ≡ map (with_times settings) (take (i + 1) xs) ++ drop (i + 1) xs
times_more settings xs ys i x rules interim within so_far read is asked =
    (λ k. set ys i (record (get_or ys i x) { rules = is k; interim = asked k }))
    ∙ ap (λ e. set ys i (with_times settings e)) (sym read)
    ∙ map_over_more (with_times settings) xs ys i x within so_far read
