-- No check of the walk answers that memory was refused.
use Rattle.std.proofs.Common.{◌≡◌, ℕ, Bool, true, false, List, [], ◌∷◌, ◌++◌, length, Option, None, Some, refl}
use Rattle.std.specs.List.{flat_map, AllByRecursion}
use Rattle.rsl_accounts.specs.declared.client.Client.{Client}
use Rattle.rsl_accounts.specs.declared.entry.Entry.{Entry}
use Rattle.rsl_accounts.specs.declared.fault.ConfigFault.{ConfigFault}
use Rattle.rsl_accounts.specs.declared.fault.ConfigFault.TheVariants.{NoMemory}
use Rattle.rsl_accounts.specs.declared.field.Field.{Field}
use Rattle.rsl_accounts.specs.declared.field.Field.TheVariants.{InterimSecs}
use Rattle.rsl_accounts.specs.declared.settings.Settings.{Settings}
use Rattle.rsl_accounts.specs.Version.{knows_own_times}
use Rattle.rsl_accounts.specs.Walk.{fault_unless, number_fault, text_fault, option_text_fault, count_fault, option_fault, interim_fault, walk_over, settings_checks, count_checks, client_checks, common_checks, own_times_checks, own_checks, account_checks, first_fault, reply_checks}

abbrev Not : Option ConfigFault → Type 0
Not x = x ≡ Some NoMemory → ⊥

abbrev Never : List (Option ConfigFault) → Type 0
Never xs = first_fault xs ≡ Some NoMemory → ⊥

unless : (right : Bool) (f : Field) → Not (fault_unless right f)
unless true f is = cc
unless false f is = cc

number : (f : Field) (n : ℕ) → Not (number_fault f n)
unfolding number_fault
number f n = unless _ f

text : (f : Field) (t : List ℕ) → Not (text_fault f t)
unfolding text_fault
text f t = unless _ f

count : (f : Field) (n : ℕ) → Not (count_fault f n)
unfolding count_fault
count f n = unless _ f

option : (f : Field) (n : Option ℕ) → Not (option_fault f n)
option f None is = cc
option f (Some n) is = number f n is

option_text : (f : Field) (t : Option (List ℕ)) → Not (option_text_fault f t)
option_text f None is = cc
option_text f (Some t) is = text f t is

interim : (version : ℕ) (n : Option ℕ) → Not (interim_fault version n)
interim version n = by (knows_own_times version) refl
  where
    by : (known : Bool) → knows_own_times version ≡ known → Not (interim_fault version n)
    by true known = rw known (option InterimSecs n)
    by false known = rw known (λ is. cc)

never-all : (xs : List (Option ConfigFault)) → AllByRecursion Not xs → Never xs
never-all [] each is = cc
never-all (None ∷ xs) each is = never-all xs each.1 is
never-all (Some fault ∷ xs) each is = each.0 is

never-append : (xs ys : List (Option ConfigFault)) → Never xs → Never ys → Never (xs ++ ys)
never-append [] ys front back is = back is
never-append (None ∷ xs) ys front back is = never-append xs ys front back is
never-append (Some fault ∷ xs) ys front back is = front is

never-flat_map : {X : Type 0} (f : X → List (Option ConfigFault)) → ((x : X) → Never (f x)) → (xs : List X) → Never (flat_map f xs)
never-flat_map f one [] is = cc
never-flat_map f one (x ∷ xs) is = never-append (f x) (flat_map f xs) (one x) (never-flat_map f one xs) is

of_settings : (settings : Settings) → Never (settings_checks settings)
unfolding settings_checks
of_settings settings = never-all (settings_checks settings) (number _ _, (number _ _, (number _ _, (number _ _, (number _ _, (number _ _, (number _ _, (interim _ _, tt))))))))

of_counts : (clients accounts : ℕ) → Never (count_checks clients accounts)
unfolding count_checks
of_counts clients accounts = never-all (count_checks clients accounts) (count _ _, (count _ _, tt))

of_client : (version : ℕ) (client : Client) → Never (client_checks version client)
unfolding client_checks
of_client version client = never-all (client_checks version client) (text _ _, (unless _ _, (unless _ _, (option _ _, tt))))

of_common : (entry : Entry) → Never (common_checks entry)
unfolding common_checks
of_common entry = never-all (common_checks entry) (text _ _, (option_text _ _, (number _ _, (number _ _, (option _ _, (option _ _, (option _ _, (option _ _, tt))))))))

of_own : (version : ℕ) (entry : Entry) → Never (own_checks version entry)
unfolding own_checks own_times_checks
of_own version entry = by (knows_own_times version) refl
  where
    by : (known : Bool) → knows_own_times version ≡ known → Never (own_checks version entry)
    by true known = rw known (never-all (own_times_checks entry) (option _ _, (option _ _, (option _ _, tt))))
    by false known = rw known (never-all [] tt)

of_reply : (version : ℕ) (entry : Entry) → Never (reply_checks version entry)
unfolding reply_checks
of_reply version entry = never-all (reply_checks version entry) (unless _ _, tt)

of_account : (version : ℕ) (entry : Entry) → Never (account_checks version entry)
unfolding account_checks
of_account version entry =
    never-append (common_checks entry ++ own_checks version entry) (reply_checks version entry)
    (never-append (common_checks entry) (own_checks version entry) (of_common entry) (of_own version entry))
    (of_reply version entry)

pub no_memory_in_walk : (settings : Settings) (clients : List Client) (accounts : List Entry) → first_fault (walk_over settings clients accounts) ≡ Some NoMemory → ⊥
unfolding walk_over
no_memory_in_walk settings clients accounts is =
    let head = settings_checks settings in
    let counts = count_checks (length clients) (length accounts) in
    let of_clients = flat_map (client_checks settings.version) clients in
    let of_accounts = flat_map (account_checks settings.version) accounts in
    never-append (head ++ counts ++ of_clients) of_accounts
    (never-append (head ++ counts) of_clients
    (never-append head counts (of_settings settings) (of_counts (length clients) (length accounts)))
    (never-flat_map (client_checks settings.version) (of_client settings.version) clients))
    (never-flat_map (account_checks settings.version) (of_account settings.version) accounts)
    is
