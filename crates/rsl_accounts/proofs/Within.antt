-- Settings, clients and accounts that pass the walk are within their limits.
use Rattle.std.proofs.Common.{◌≡◌, ◌≢◌, ℕ, ◌≤◌, Bool, true, false, not, leb, eqb, List, [], ◌∷◌, ◌++◌, map, length, get_or, All, Option, None, Some, IfSome, unwrap_or, refl, sym, ap, ◌∙◌}
use Rattle.std.proofs.lemmas.Bool.{and_parts, leb-true, eq-eqb}
use Rattle.std.proofs.lemmas.List.{length-map}
use Rattle.std.proofs.lemmas.List.Elements.{All-nil, All-cons, All-map}
use Rattle.std.proofs.lemmas.List.Sums.{AllPass-from_list_all}
use Rattle.std.specs.List.{flat_map, AllByRecursion}
use Rattle.std.specs.Option.{option_or}
use Rattle.rsl_accounts.specs.declared.client.Client.{Client}
use Rattle.rsl_accounts.specs.declared.entry.Entry.{Entry}
use Rattle.rsl_accounts.specs.declared.fault.ConfigFault.{ConfigFault}
use Rattle.rsl_accounts.specs.declared.field.Field.{Field}
use Rattle.rsl_accounts.specs.declared.field.Field.TheVariants as field
use Rattle.rsl_accounts.specs.declared.settings.Settings.{Settings}
use Rattle.rsl_accounts.specs.Configuration.{with_times, comes_twice, addresses, names}
use Rattle.rsl_accounts.specs.Field.{is_between, is_secret, is_name, has_no_nul, is_visible, takes_number, takes_count, takes_text}
use Rattle.rsl_accounts.specs.Limits.{IsTime, IsInterval, SettingsFit, IsSecret, IsName, IsAccount, IsConfiguration}
use Rattle.rsl_accounts.specs.Settings.{own_time, interim_of}
use Rattle.rsl_accounts.specs.Version.{knows_own_times, least_secret, reply_room}
use Rattle.rsl_accounts.specs.Walk.{walk_over, settings_checks, count_checks, client_checks, common_checks, own_times_checks, own_checks, account_checks, first_fault, fault_unless, number_fault, text_fault, option_text_fault, trust_fault, count_fault, option_fault, reply_checks}
use Rattle.rsl_accounts.proofs.Made.{made}

-- checks without a fault have all passed
pub passed : (xs : List (Option ConfigFault)) → first_fault xs ≡ None → AllByRecursion (λ x. x ≡ None) xs
passed [] none = tt
passed (None ∷ xs) none = (refl, passed xs none)
passed (Some fault ∷ xs) none = cc

pub passed-append : (xs ys : List (Option ConfigFault)) → first_fault (xs ++ ys) ≡ None → (first_fault xs ≡ None) × (first_fault ys ≡ None)
passed-append [] ys none = (refl, none)
passed-append (None ∷ xs) ys none = passed-append xs ys none
passed-append (Some fault ∷ xs) ys none = cc

pub passed-flat_map : {X : Type 0} (checks_of : X → List (Option ConfigFault)) (xs : List X) → first_fault (flat_map checks_of xs) ≡ None → All (λ x. first_fault (checks_of x) ≡ None) xs
passed-flat_map checks_of [] none = All-nil (λ x. first_fault (checks_of x) ≡ None)
passed-flat_map checks_of (x ∷ xs) none =
    let (here, there) = passed-append (checks_of x) (flat_map checks_of xs) none in
    All-cons (λ x. first_fault (checks_of x) ≡ None) x xs here (passed-flat_map checks_of xs there)

-- a field that has no fault has a right value
is_right : (right : Bool) (f : Field) → fault_unless right f ≡ None → right ≡ true
is_right true f none = refl
is_right false f none = cc

pub right_number : (f : Field) (number : ℕ) → number_fault f number ≡ None → takes_number f number ≡ true
unfolding number_fault
right_number f number none = is_right (takes_number f number) f none

right_text : (f : Field) (text : List ℕ) → text_fault f text ≡ None → takes_text f text ≡ true
unfolding text_fault
right_text f text none = is_right (takes_text f text) f none

right_count : (f : Field) (count : ℕ) → count_fault f count ≡ None → takes_count f count ≡ true
unfolding count_fault
right_count f count none = is_right (takes_count f count) f none

pub between : (least most number : ℕ) → is_between least most number ≡ true → (least ≤ number) × (number ≤ most)
between least most number right =
    let (low, high) = and_parts (leb least number) (leb number most) right in
    (leb-true least number low, leb-true number most high)

time : (seconds : ℕ) → is_between 1 86400 seconds ≡ true → IsTime seconds
time seconds right =
    let (low, high) = between 1 86400 seconds right in
    record { some = low; within_a_day = high }

interval : (asked : Option ℕ) → option_fault field.InterimSecs asked ≡ None → IfSome asked IsInterval
interval None none = tt
interval (Some seconds) none =
    let (low, high) = between 60 86400 seconds (right_number field.InterimSecs seconds none) in
    record { a_minute = low; within_a_day = high }

-- what the head of a file has that passes
record HeadFits (settings : Settings) (client_count account_count : ℕ) : Type 0 where
  version : (1 ≤ settings.version) × (settings.version ≤ 3)
  shards : (1 ≤ settings.shards) × (settings.shards ≤ 4)
  reserve : IsTime settings.reserve
  live : IsTime settings.live
  grace : IsTime settings.grace
  closed : IsTime settings.closed
  keep : IsTime settings.keep
  interim : knows_own_times settings.version ≡ true → IfSome settings.interim IsInterval
  clients : (1 ≤ client_count) × (client_count ≤ 256)
  accounts : (1 ≤ account_count) × (account_count ≤ 16384)

head_fits : (settings : Settings) (clients accounts : ℕ) → first_fault (settings_checks settings) ≡ None → first_fault (count_checks clients accounts) ≡ None → HeadFits settings clients accounts
unfolding settings_checks count_checks
head_fits settings clients accounts none counts =
    let p = passed (settings_checks settings) none in
    let q = passed (count_checks clients accounts) counts in
    record {
      version = between 1 3 settings.version (right_number field.Version settings.version p.0);
      shards = between 1 4 settings.shards (right_number field.Shards settings.shards p.1.0);
      reserve = time settings.reserve (right_number field.ReserveSecs settings.reserve p.1.1.0);
      live = time settings.live (right_number field.LiveSecs settings.live p.1.1.1.0);
      grace = time settings.grace (right_number field.GraceSecs settings.grace p.1.1.1.1.0);
      closed = time settings.closed (right_number field.ClosedSecs settings.closed p.1.1.1.1.1.0);
      keep = time settings.keep (right_number field.KeepSecs settings.keep p.1.1.1.1.1.1.0);
      interim = λ known. interval settings.interim (rw known at p.1.1.1.1.1.1.1.0);
      clients = between 1 256 clients (right_count field.Client clients q.0);
      accounts = between 1 16384 accounts (right_count field.Account accounts q.1.0);
    }

no_zero : (octet : ℕ) → not (eqb octet 0) ≡ true → octet ≢ 0
no_zero octet right zero =
    let is_zero : eqb octet 0 ≡ true = eq-eqb octet 0 zero in
    let wrong : false ≡ true = ap not (sym is_zero) ∙ right in
    cc

secret : (text : List ℕ) → is_secret text ≡ true → IsSecret text
secret text right =
    let (long, clean) = and_parts (is_between 1 128 (length text)) (has_no_nul text) right in
    let (low, high) = between 1 128 (length text) long in
    record {
      some = low;
      length = high;
      no_nul = λ k d within. no_zero _ (AllPass-from_list_all (λ octet. not (eqb octet 0)) text clean k d within);
    }

name : (text : List ℕ) → is_name text ≡ true → IsName text
name text right =
    let (long, clean) = and_parts (is_between 1 64 (length text)) (is_visible text) right in
    let (low, high) = between 1 64 (length text) long in
    record {
      some = low;
      length = high;
      visible = λ k d within. between 33 126 _ (AllPass-from_list_all (λ octet. is_between 33 126 octet) text clean k d within);
    }

-- a password, where there is one
own_password : (text : Option (List ℕ)) → option_text_fault field.Password text ≡ None → IfSome text IsSecret
own_password None none = tt
own_password (Some text) none = secret text (right_text field.Password text none)

-- a client that is trusted signs
signs : (signed trusted : Bool) → trust_fault signed trusted ≡ None → trusted ≡ true → signed ≡ true
signs true trusted none is = refl
signs false true none is = cc
signs false false none is = cc

-- a port is not 0
port : (number : Option ℕ) → option_fault field.Port number ≡ None → IfSome number (λ n. 1 ≤ n)
port None none = tt
port (Some n) none = (between 1 65535 n (right_number field.Port n none)).0

client_fits : (version : ℕ) (client : Client) → first_fault (client_checks version client) ≡ None
    → IsSecret client.secret × ((least_secret version ≤ length client.secret) × ((client.trusted ≡ true → client.signed ≡ true) × IfSome client.disconnect (λ port. 1 ≤ port)))
unfolding client_checks
client_fits version client none =
    let p = passed (client_checks version client) none in
    (secret client.secret (right_text field.Secret client.secret p.0), (leb-true _ _ (is_right _ field.Secret p.1.0), (signs client.signed client.trusted p.1.1.0, port client.disconnect p.1.1.1.0)))

optional : (f : Field) → ((n : ℕ) → takes_number f n ≡ is_between 1 4294967295 n) → (number : Option ℕ) → option_fault f number ≡ None → IfSome number (λ n. 1 ≤ n)
optional f takes None none = tt
optional f takes (Some n) none = (between 1 4294967295 n (sym (takes n) ∙ right_number f n none)).0

-- an account's own time is within its limits where the version knows it
own_fits : (f : Field) → ((n : ℕ) → takes_number f n ≡ is_between 1 86400 n) → (own : Option ℕ) (common : ℕ) → IsTime common → option_fault f own ≡ None → IsTime (unwrap_or own common)
own_fits f takes None common fits none = fits
own_fits f takes (Some n) common fits none = time n (sym (takes n) ∙ right_number f n none)

-- the account's own interval, or else the file's
either_interval : (own common : Option ℕ) → IfSome own IsInterval → IfSome common IsInterval → IfSome (option_or own common) IsInterval
either_interval None common own_fits_ common_fits = common_fits
either_interval (Some n) common own_fits_ common_fits = own_fits_

module _ (settings : Settings) (fits : SettingsFit settings) (entry : Entry) (none : first_fault (account_checks settings.version entry) ≡ None) where
  all : (first_fault (common_checks entry ++ own_checks settings.version entry) ≡ None) × (first_fault (reply_checks settings.version entry) ≡ None)
  unfolding account_checks
  all = passed-append (common_checks entry ++ own_checks settings.version entry) (reply_checks settings.version entry) none

  both : (first_fault (common_checks entry) ≡ None) × (first_fault (own_checks settings.version entry) ≡ None)
  both = passed-append (common_checks entry) (own_checks settings.version entry) all.0

  reply_fits : length entry.reply ≤ reply_room settings.version
  unfolding reply_checks
  reply_fits =
      let p = passed (reply_checks settings.version entry) all.1 in
      leb-true _ _ (is_right _ field.Reply p.0)

  times_fit : IsTime (own_time settings.version entry.own_live settings.live) × IsTime (own_time settings.version entry.own_grace settings.grace)
  unfolding own_checks own_times_checks
  times_fit = by (knows_own_times settings.version) refl
    where
      by : (known : Bool) → knows_own_times settings.version ≡ known
          → IsTime (own_time settings.version entry.own_live settings.live) × IsTime (own_time settings.version entry.own_grace settings.grace)
      by true known =
          let both_ = both in
          let own : first_fault (own_times_checks entry) ≡ None = rw known at both_.1 in
          let p = passed (own_times_checks entry) own in
          rw known (own_fits field.OwnLive (λ n. refl) entry.own_live settings.live fits.live p.0, own_fits field.OwnGrace (λ n. refl) entry.own_grace settings.grace fits.grace p.1.0)
      by false known = rw known (fits.live, fits.grace)

  interim_fits : IfSome (interim_of settings entry) IsInterval
  unfolding own_checks own_times_checks
  interim_fits = by (knows_own_times settings.version) refl
    where
      by : (known : Bool) → knows_own_times settings.version ≡ known → IfSome (interim_of settings entry) IsInterval
      by true known =
          let both_ = both in
          let own : first_fault (own_times_checks entry) ≡ None = rw known at both_.1 in
          let p = passed (own_times_checks entry) own in
          rw known (either_interval entry.interim settings.interim (interval entry.interim p.1.1.0) (fits.interim known))
      by false known = rw known tt

  entry_fits : IsAccount settings (with_times settings entry)
  unfolding common_checks
  entry_fits =
      let p = passed (common_checks entry) both.0 in
      let ports = between 1 16 entry.rules.ports (right_number field.Ports entry.rules.ports p.1.1.1.0) in
      let times = times_fit in
      record {
        name = name entry.name (right_text field.Name entry.name p.0);
        password = own_password entry.password p.1.0;
        rules = record {
          places = (between 0 64 entry.rules.places (right_number field.Places entry.rules.places p.1.1.0)).1;
          a_port = ports.0;
          ports = ports.1;
          reserve = fits.reserve;
          live = times.0;
          grace = times.1;
          closed = fits.closed;
          keep = fits.keep;
          keep_within_reserve = fits.keep_within_reserve;
        };
        times = refl;
        service_type = optional field.ServiceType (λ n. refl) entry.service_type p.1.1.1.1.0;
        framed_protocol = optional field.FramedProtocol (λ n. refl) entry.framed_protocol p.1.1.1.1.1.0;
        session_timeout = optional field.SessionTimeout (λ n. refl) entry.session_timeout p.1.1.1.1.1.1.0;
        idle_timeout = optional field.IdleTimeout (λ n. refl) entry.idle_timeout p.1.1.1.1.1.1.1.0;
        interim = interim_fits;
        reply = reply_fits;
      }

-- the times leave the names
pub names-with_times : (settings : Settings) (accounts : List Entry) → names (map (with_times settings) accounts) ≡ names accounts
names-with_times settings [] = refl
names-with_times settings (entry ∷ accounts) = ap (λ rest. entry.name ∷ rest) (names-with_times settings accounts)

pub made_fits : (settings : Settings) (clients : List Client) (accounts : List Entry) → first_fault (walk_over settings clients accounts) ≡ None → comes_twice (addresses clients) ≡ false → comes_twice (names accounts) ≡ false → settings.keep ≤ settings.reserve → IsConfiguration (made settings clients accounts)
unfolding walk_over
made_fits settings clients accounts none differ differ_too short =
    let head = settings_checks settings in
    let counts = count_checks (length clients) (length accounts) in
    let of_clients = flat_map (client_checks settings.version) clients in
    let of_accounts = flat_map (account_checks settings.version) accounts in
    let (front, accounts_pass) = passed-append (head ++ counts ++ of_clients) of_accounts none in
    let (both, clients_pass) = passed-append (head ++ counts) of_clients front in
    let (head_passes, counts_pass) = passed-append head counts both in
    let fits = head_fits settings (length clients) (length accounts) head_passes counts_pass in
    let settings_fit : SettingsFit settings = record {
      a_version = fits.version.0;
      version = fits.version.1;
      a_shard = fits.shards.0;
      shards = fits.shards.1;
      reserve = fits.reserve;
      live = fits.live;
      grace = fits.grace;
      closed = fits.closed;
      keep = fits.keep;
      keep_within_reserve = short;
      interim = fits.interim;
    } in
    let each_client = passed-flat_map (client_checks settings.version) clients clients_pass in
    let each_entry = passed-flat_map (account_checks settings.version) accounts accounts_pass in
    record {
      settings = settings_fit;
      a_client = fits.clients.0;
      clients = fits.clients.1;
      an_account = rw (length-map accounts (with_times settings)) fits.accounts.0;
      accounts = rw (length-map accounts (with_times settings)) fits.accounts.1;
      secrets = λ k d within. (client_fits settings.version (get_or clients k d) (each_client k d within)).0;
      long_secrets = λ k d within. (client_fits settings.version (get_or clients k d) (each_client k d within)).1.0;
      trusted_sign = λ k d within. (client_fits settings.version (get_or clients k d) (each_client k d within)).1.1.0;
      disconnect_ports = λ k d within. (client_fits settings.version (get_or clients k d) (each_client k d within)).1.1.1;
      each_account = All-map (IsAccount settings) (with_times settings) accounts (λ k d within. entry_fits settings settings_fit (get_or accounts k d) (each_entry k d within));
      addresses_differ = differ;
      names_differ = rw (names-with_times settings accounts) differ_too;
    }
