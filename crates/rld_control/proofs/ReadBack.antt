-- The line of a command asks for it.
use Rattle.std.proofs.Common.{◌≡◌, ℕ, zero, suc, ◌+◌, ◌%◌, ◌^◌, ◌<◌, ◌≤◌, ◌==◌, cond, List, [], ◌∷◌, ◌++◌, length, drop, Bool, true, false, ◌&&◌, not, Option, Some, None, get_or, bytes_eq, refl, sym, ap, ◌∙◌, arith, append_assoc, lit≤}
use Rattle.std.proofs.lemmas.Bool.{agree_below_at, false≢true}
use Rattle.std.proofs.lemmas.Bool.Decides.{nat_tests}
use Rattle.std.proofs.lemmas.Nat.{from_be_bytes-to_be_bytes_8, mod_below}
use Rattle.std.proofs.lemmas.Option.{none-some}
use Rattle.std.proofs.lemmas.Slice.Eq.{bytes_eq-Decides}
use Rattle.std.specs.Int.{byte_at, bytes_high_first, to_be_bytes, w64}
use Rattle.std.proofs.lemmas.Fmt.{decimal_by_steps}
use Rattle.std.proofs.lemmas.List.{append-nil, length-append}
use Rattle.std.proofs.Math.Seq.{take-append_seam}
use Rattle.std.proofs.NetLemmas.Ipv4.{read_ipv4_complete}
use Rattle.std.specs.Fmt.{decimal}
use Rattle.std.specs.List.{position, position_or_len}
use Rattle.std.specs.Net.Grammar.{IsDotted}
use Rattle.std.specs.Net.Reader.{read_ipv4, read_number, read_octet}
use Rattle.std.specs.Option.{option_and_then, option_map}
use Rattle.std.specs.Prelude.{codes}
use Rattle.rsl_accounts.specs.Address.{address_of}
use Rattle.rsl_event.specs.declared.nas.NasName.{NasName}
use Rattle.rsl_event.specs.declared.nas.NasName.TheVariants.{Identifier, Address, Unnamed}
use Rattle.rld_values.specs.Laws.{AreOctets, ReadsBack, ReadsBackBehindKeys, ReadsHexBack}
use Rattle.rld_values.specs.Read.{octets_of_word, unescaped}
use Rattle.rld_values.specs.Values.{dotted, escaped, escaped_octet, hex, hex_octet, word}
use Rattle.rld_control.specs.Command.{command_of, command_with, flagged_sessions, line_of, sessions_of}
use Rattle.rld_control.specs.Laws.{IfGiven, IsAddress, IsCommand, IsListing, IsNamedServer, IsNamedSession, IsNasName}
use Rattle.rld_control.specs.Listing.{form_of_word, form_word, listing_of, listing_words, optional, optional_word, seconds_of, seconds_of_word, state_of_word, state_word, with_names, with_older, with_state}
use Rattle.rld_control.specs.Listing as listings
use Rattle.rld_control.specs.Named.{named_by, named_server_of, named_server_words, named_session_of, nas_of_word, nas_word, server_by, session_words, with_account, with_client}
use Rattle.rld_control.specs.Words.{by_first_word, by_parts, is_space, parted}
use Rattle.rld_control.specs.declared.command.Command.{Command}
use Rattle.rld_control.specs.declared.command.Command.TheVariants.{Status, Ready, Accounts, Sessions, Links, Free, FreeServer, Disconnect, Ask, Reload, Stop}
use Rattle.rld_control.specs.declared.form.Form.{Form}
use Rattle.rld_control.specs.declared.form.Form.TheVariants.{Lines, Json}
use Rattle.rld_control.specs.declared.form.Selection.TheVariants.{All, Held, Full}
use Rattle.rld_control.specs.declared.listing.Listing.{Listing}
use Rattle.rld_control.specs.declared.named.NamedServer.{NamedServer}
use Rattle.rld_control.specs.declared.named.NamedSession.{NamedSession}
use Rattle.rld_control.specs.declared.wanted.LinkState.{LinkState}
use Rattle.rld_control.specs.declared.wanted.LinkState.TheVariants as states

-- ---- words without a space

abbrev no_space : List ℕ → Bool
no_space [] = true
no_space (octet ∷ rest) = not (is_space octet) && no_space rest

both_free : (seen : Bool) (one more : List ℕ) → (no_space one ≡ true → no_space more ≡ true)
    → (seen && no_space one) ≡ true → (seen && no_space more) ≡ true
both_free true one more so free = so free
both_free false one more so free = free

no_space-append : (one other : List ℕ) → no_space one ≡ true → no_space other ≡ true → no_space (one ++ other) ≡ true
no_space-append [] other first second = second
no_space-append (octet ∷ one) other first second =
    both_free (not (is_space octet)) one (one ++ other) (λ free. no_space-append one other free second) first

-- one place further, unless a space stands here
next_place : (seen : Bool) (one : List ℕ) (later : ℕ) → (no_space one ≡ true → later ≡ length one)
    → (seen && no_space one) ≡ true → cond seen (1 + later) 0 ≡ suc (length one)
next_place true one later so free = let same : later ≡ length one = so free in omega (arith, same)
next_place false one later so free = absurd (false≢true free)

place : (one rest : List ℕ) → no_space one ≡ true → position_or_len is_space (one ++ 32 ∷ rest) ≡ length one
place [] rest free = refl
place (octet ∷ one) rest free =
    next_place (not (is_space octet)) one (position_or_len is_space (one ++ 32 ∷ rest)) (λ others. place one rest others) free

behind : (one rest : List ℕ) → drop (length one + 1) (one ++ 32 ∷ rest) ≡ rest
behind [] rest = refl
behind (octet ∷ one) rest =
    let later : length (octet ∷ one) + 1 ≡ suc (length one + 1) = omega arith in rw later (behind one rest)

-- a word and those behind it
parted_at : (one rest : List ℕ) → no_space one ≡ true
    → parted (one ++ 32 ∷ rest) ≡ Some (record { word = one; words = rest })
parted_at one rest free =
    let at : position_or_len is_space (one ++ 32 ∷ rest) ≡ length one = place one rest free in
    let within : length one < length (one ++ 32 ∷ rest) = omega (arith, length-append one (32 ∷ rest)) in
    let found : position is_space (one ++ 32 ∷ rest) ≡ Some (length one) = rw at (grind (arith, nat_tests)) in
    rw (found, take-append_seam one (32 ∷ rest), behind one rest) refl

at_word : {A : Type 0} → (with : List ℕ → List ℕ → Option A) (alone : Option A) (one rest : List ℕ)
    → no_space one ≡ true → by_first_word with alone (one ++ 32 ∷ rest) ≡ with one rest
at_word with alone one rest free = ap (by_parts with alone) (parted_at one rest free)

-- where no space stands
nowhere : (one : List ℕ) → no_space one ≡ true → position_or_len is_space one ≡ length one
nowhere [] free = refl
nowhere (octet ∷ one) free =
    next_place (not (is_space octet)) one (position_or_len is_space one) (λ others. nowhere one others) free

-- a word alone
by_itself : {A : Type 0} → (with : List ℕ → List ℕ → Option A) (none : Option A) (one : List ℕ)
    → no_space one ≡ true → by_first_word with none one ≡ none
by_itself with none one free =
    let at : position_or_len is_space one ≡ length one = nowhere one free in
    let found : position is_space one ≡ None = rw at (grind (arith, nat_tests)) in
    rw found refl

-- ---- what is written has none

octet_free : (octet : ℕ) → octet < 256 → no_space (escaped_octet octet) ≡ true
octet_free octet below = agree_below_at (λ octet. no_space (escaped_octet octet)) (λ _. true) 256 octet refl below

digits_free : (octet : ℕ) → octet < 256 → no_space (hex_octet octet) ≡ true
digits_free octet below = agree_below_at (λ octet. no_space (hex_octet octet)) (λ _. true) 256 octet refl below

digit_free : (digit : ℕ) → no_space ((48 + digit) ∷ []) ≡ true
digit_free digit = let no : (48 + digit == 32) ≡ false = grind (arith, nat_tests) in rw no refl

number_free : (octet : ℕ) → octet < 256 → no_space (decimal octet) ≡ true
number_free octet below =
    let small : 256 ≤ 2 ^ 64 = lit≤ tt in
    decimal_by_steps (λ number digits. no_space digits ≡ true) (λ number one. digit_free number)
    (λ number digits more free. no_space-append digits ((48 + number % 10) ∷ []) free (digit_free (number % 10)))
    octet (omega (arith, small, below))

first_octet : (octet : ℕ) (octets : List ℕ) → AreOctets (octet ∷ octets) → octet < 256
first_octet octet octets are = are 0 octet (omega arith)

others : (octet : ℕ) (octets : List ℕ) → AreOctets (octet ∷ octets) → AreOctets octets
others octet octets are = λ k d within. are (suc k) d (omega (arith, within))

escaped_free : (octets : List ℕ) → AreOctets octets → no_space (escaped octets) ≡ true
escaped_free [] are = refl
escaped_free (octet ∷ octets) are =
    no_space-append (escaped_octet octet) (escaped octets) (octet_free octet (first_octet octet octets are)) (escaped_free octets (others octet octets are))

hex_free : (octets : List ℕ) → AreOctets octets → no_space (hex octets) ≡ true
hex_free [] are = refl
hex_free (octet ∷ octets) are =
    no_space-append (hex_octet octet) (hex octets) (digits_free octet (first_octet octet octets are)) (hex_free octets (others octet octets are))

word_free : (octets : List ℕ) → AreOctets octets → no_space (word octets) ≡ true
word_free [] are = refl
word_free (octet ∷ octets) are = escaped_free (octet ∷ octets) are

nas_free : (nas : NasName) → IsNasName nas → no_space (nas_word nas) ≡ true
nas_free (Identifier name) are = escaped_free name are
nas_free (Address address) are = hex_free address are
nas_free Unnamed are = refl

pair_free : (one other : ℕ) → one < 256 → other < 256 → no_space (decimal one ++ (46 ∷ decimal other)) ≡ true
pair_free one other first second =
    no_space-append (decimal one) (46 ∷ decimal other) (number_free one first) (number_free other second)

dotted_free : (client : List ℕ) → length client ≡ 4 → AreOctets client → no_space (dotted client) ≡ true
unfolding dotted
dotted_free (a ∷ b ∷ c ∷ d ∷ []) four are =
    no_space-append (decimal a ++ (46 ∷ decimal b)) (46 ∷ (decimal c ++ (46 ∷ decimal d)))
    (pair_free a b (are 0 0 (omega arith)) (are 1 0 (omega arith)))
    (pair_free c d (are 2 0 (omega arith)) (are 3 0 (omega arith)))
dotted_free [] four are = absurd (omega (arith, four))
dotted_free (a ∷ []) four are = absurd (omega (arith, four))
dotted_free (a ∷ b ∷ []) four are = absurd (omega (arith, four))
dotted_free (a ∷ b ∷ c ∷ []) four are = absurd (omega (arith, four))
dotted_free (a ∷ b ∷ c ∷ d ∷ e ∷ more) four are = absurd (omega (arith, four))

-- ---- and is read back

address_dotted : (text octets : List ℕ) → IsDotted text octets → address_of text ≡ Some octets
unfolding address_of
address_dotted text octets is =
    let whole : read_ipv4 text ≡ Some (octets, []) = rw append-nil at (read_ipv4_complete text octets [] is (lit≤ tt)) in
    rw whole

client_read : (client : List ℕ) → length client ≡ 4 → AreOctets client → address_of (dotted client) ≡ Some client
unfolding dotted
client_read (a ∷ b ∷ c ∷ d ∷ []) four are =
    address_dotted _ (a ∷ b ∷ c ∷ d ∷ []) (record {
      a = a;
      b = b;
      c = c;
      d = d;
      fit = (are 0 0 (omega arith), are 1 0 (omega arith), are 2 0 (omega arith), are 3 0 (omega arith));
      value = refl;
      spelled = simp append_assoc;
    })
client_read [] four are = absurd (omega (arith, four))
client_read (a ∷ []) four are = absurd (omega (arith, four))
client_read (a ∷ b ∷ []) four are = absurd (omega (arith, four))
client_read (a ∷ b ∷ c ∷ []) four are = absurd (omega (arith, four))
client_read (a ∷ b ∷ c ∷ d ∷ e ∷ more) four are = absurd (omega (arith, four))

nas_read : ReadsBackBehindKeys → ReadsHexBack → (nas : NasName) → IsNasName nas → nas_of_word (nas_word nas) ≡ Some nas
nas_read values digits (Identifier name) are = ap (option_map (λ (octets : List ℕ). Identifier octets)) (values name are)
nas_read values digits (Address address) are = ap (option_map (λ (octets : List ℕ). Address octets)) (digits address are)
nas_read values digits Unnamed are = refl

-- ---- a line

session_read : ReadsBack → ReadsBackBehindKeys → ReadsHexBack → (session : NamedSession) → IsNamedSession session
    → named_session_of (session_words session) ≡ Some session
unfolding session_words
session_read words values digits session is =
    let text : session_words session
    ≡ word session.account ++ 32 ∷ (dotted session.client ++ 32 ∷ (nas_word session.nas ++ 32 ∷ word session.session)) =
    simp append_assoc in
    ap named_session_of text
    ∙ (at_word with_account None (word session.account) _ (word_free session.account is.account)
    ∙ (at_word (with_client (word session.account)) None (dotted session.client) _ (dotted_free session.client is.four is.client)
    ∙ (at_word (named_by (word session.account) (dotted session.client)) None (nas_word session.nas) (word session.session) (nas_free session.nas is.nas)
    ∙ rw (client_read session.client is.four is.client, words session.account is.account, nas_read values digits session.nas is.nas, words session.session is.session) refl)))

-- ---- a listing

-- what is read of other words is not read of `\-`
no_nothing : {A : Type 0} → (read : List ℕ → Option A) (word : List ℕ) (value : A) → read word ≡ Some value
    → read (codes "\\-") ≡ None → bytes_eq word (codes "\\-") ≡ false
no_nothing {A} read word value is none = by (bytes_eq word (codes "\\-")) refl
  where
    by : (test : Bool) → bytes_eq word (codes "\\-") ≡ test → bytes_eq word (codes "\\-") ≡ false
    by false same = same
    by true same =
        absurd (none-some value (sym none ∙ (sym (ap read ((bytes_eq-Decides word (codes "\\-")).0 same)) ∙ is)))

optional_read : {A : Type 0} → (read : List ℕ → Option A) (spelled : A → List ℕ) (Is : A → Type 0) (given : Option A)
    → ((value : A) → Is value → read (spelled value) ≡ Some value) → read (codes "\\-") ≡ None → IfGiven Is given
    → optional read (optional_word spelled given) ≡ Some given
optional_read read spelled Is None reads none is = refl
optional_read read spelled Is (Some value) reads none is =
    rw (no_nothing read (spelled value) value (reads value is) none, reads value is) refl

optional_free : {A : Type 0} → (spelled : A → List ℕ) (Is : A → Type 0) (given : Option A)
    → ((value : A) → Is value → no_space (spelled value) ≡ true) → IfGiven Is given
    → no_space (optional_word spelled given) ≡ true
optional_free spelled Is None frees is = refl
optional_free spelled Is (Some value) frees is = frees value is

form_read : (form : Form) → form_of_word (form_word form) ≡ Some form
form_read Lines = refl
form_read Json = refl

form_free : (form : Form) → no_space (form_word form) ≡ true
form_free Lines = refl
form_free Json = refl

abbrev IsState : LinkState → Type 0
IsState _ = Unit {0}

state_read : (state : LinkState) → IsState state → state_of_word (state_word state) ≡ Some state
state_read states.Reserved is = refl
state_read states.Live is = refl
state_read states.Stale is = refl

state_free : (state : LinkState) → IsState state → no_space (state_word state) ≡ true
state_free states.Reserved is = refl
state_free states.Live is = refl
state_free states.Stale is = refl

any_state : (given : Option LinkState) → IfGiven IsState given
any_state None = tt
any_state (Some one) = tt

one_more : (octet : ℕ) (octets : List ℕ) → octet < 256 → AreOctets octets → (k : ℕ) (d : ℕ)
    → k < length (octet ∷ octets) → get_or (octet ∷ octets) k d < 256
one_more octet octets below are zero d within = below
one_more octet octets below are (suc k) d within = are k d (omega (arith, within))

octet_at : (k n : ℕ) → byte_at k n < 256
octet_at zero n = mod_below n 256 (omega arith)
octet_at (suc k) n = mod_below _ 256 (omega arith)

number_octets : (k n : ℕ) → AreOctets (bytes_high_first k n)
number_octets zero n = λ k d within. absurd (omega (arith, within))
number_octets (suc k) n = one_more (byte_at k n) (bytes_high_first k n) (octet_at k n) (number_octets k n)

seconds_read : ReadsHexBack → (seconds : ℕ) → seconds < 2 ^ 64 → seconds_of_word (hex (to_be_bytes w64 seconds)) ≡ Some seconds
seconds_read digits seconds fits =
    ap (option_and_then seconds_of) (digits (to_be_bytes w64 seconds) (number_octets 8 seconds))
    ∙ ap (λ (number : ℕ). Some number) (from_be_bytes-to_be_bytes_8 seconds fits)

client_word_read : (client : List ℕ) → IsAddress client → address_of (dotted client) ≡ Some client
client_word_read client is = client_read client is.0 is.1

client_word_free : (client : List ℕ) → IsAddress client → no_space (dotted client) ≡ true
client_word_free client is = dotted_free client is.0 is.1

no_address : address_of (codes "\\-") ≡ None
unfolding address_of read_ipv4 read_octet read_number
no_address = refl

no_account : octets_of_word (codes "\\-") ≡ None
unfolding unescaped
no_account = refl

-- a word that is read, and those after it
next_word : {A : Type 0} → (read : List ℕ → Option A) (with : A → List ℕ → List ℕ → Option Listing) (one rest : List ℕ) (value : A)
    → no_space one ≡ true → read one ≡ Some value
    → by_first_word (λ (first others : List ℕ). option_and_then (λ (value : A). by_first_word (with value) None others) (read first)) None (one ++ 32 ∷ rest)
    ≡ by_first_word (with value) None rest
next_word {A} read with one rest value free is =
    at_word (λ (first others : List ℕ). option_and_then (λ (value : A). by_first_word (with value) None others) (read first)) None one rest free
    ∙ ap (option_and_then (λ (value : A). by_first_word (with value) None rest)) is

last_words : ReadsBack → ReadsBackBehindKeys → ReadsHexBack → (listing : Listing) → IsListing listing
    → by_first_word (with_names listing.form listing.wanted.client listing.wanted.state listing.wanted.older) None
    (optional_word nas_word listing.wanted.nas ++ 32 ∷ optional_word word listing.from)
    ≡ Some listing
last_words words values digits listing is =
    at_word (with_names listing.form listing.wanted.client listing.wanted.state listing.wanted.older) None
    (optional_word nas_word listing.wanted.nas) (optional_word word listing.from)
    (optional_free nas_word IsNasName listing.wanted.nas nas_free is.nas)
    ∙ rw (
      optional_read nas_of_word nas_word IsNasName listing.wanted.nas (nas_read values digits) refl is.nas,
      optional_read octets_of_word word AreOctets listing.from words no_account is.from,
    ) refl

listing_read : ReadsBack → ReadsBackBehindKeys → ReadsHexBack → (listing : Listing) → IsListing listing
    → listing_of (listing_words listing) ≡ Some listing
unfolding listing_words
listing_read words values digits listing is =
    let names : List ℕ = optional_word nas_word listing.wanted.nas ++ 32 ∷ optional_word word listing.from in
    let older : List ℕ = hex (to_be_bytes w64 listing.wanted.older) ++ 32 ∷ names in
    let state : List ℕ = optional_word state_word listing.wanted.state ++ 32 ∷ older in
    let client : List ℕ = optional_word dotted listing.wanted.client ++ 32 ∷ state in
    next_word form_of_word listings.with_client (form_word listing.form) client listing.form (form_free listing.form) (form_read listing.form)
    ∙ (next_word (optional address_of) (with_state listing.form) (optional_word dotted listing.wanted.client) state listing.wanted.client
    (optional_free dotted IsAddress listing.wanted.client client_word_free is.client)
    (optional_read address_of dotted IsAddress listing.wanted.client client_word_read no_address is.client)
    ∙ (next_word (optional state_of_word) (with_older listing.form listing.wanted.client) (optional_word state_word listing.wanted.state) older listing.wanted.state
    (optional_free state_word IsState listing.wanted.state state_free (any_state listing.wanted.state))
    (optional_read state_of_word state_word IsState listing.wanted.state state_read refl (any_state listing.wanted.state))
    ∙ (next_word seconds_of_word (with_names listing.form listing.wanted.client listing.wanted.state) (hex (to_be_bytes w64 listing.wanted.older)) names listing.wanted.older
    (hex_free (to_be_bytes w64 listing.wanted.older) (number_octets 8 listing.wanted.older))
    (seconds_read digits listing.wanted.older is.older)
    ∙ last_words words values digits listing is)))

server_read : ReadsBackBehindKeys → ReadsHexBack → (server : NamedServer) → IsNamedServer server
    → named_server_of (named_server_words server) ≡ Some server
unfolding named_server_words
server_read values digits server is =
    at_word server_by None (dotted server.client) (nas_word server.nas) (client_word_free server.client is.client)
    ∙ rw (client_word_read server.client is.client, nas_read values digits server.nas is.nas) refl

pub line_read : ReadsBack → ReadsBackBehindKeys → ReadsHexBack → (command : Command) → IsCommand command
    → command_of (line_of command) ≡ Some command
line_read words values digits (Status Lines) is = refl
line_read words values digits (Status Json) is = refl
line_read words values digits (Accounts Lines All) is = refl
line_read words values digits (Accounts Lines Held) is = refl
line_read words values digits (Accounts Lines Full) is = refl
line_read words values digits (Accounts Json All) is = refl
line_read words values digits (Accounts Json Held) is = refl
line_read words values digits (Accounts Json Full) is = refl
line_read words values digits Ready is = refl
line_read words values digits Reload is = refl
line_read words values digits Stop is = refl
line_read words values digits (Sessions Lines account) is =
    at_word command_with _ (codes "sessions") (word account) refl
    ∙ (by_itself flagged_sessions (sessions_of Lines (word account)) (word account) (word_free account is)
    ∙ ap (option_map (λ (octets : List ℕ). Sessions Lines octets)) (words account is))
line_read words values digits (Sessions Json account) is =
    at_word command_with _ (codes "sessions") (codes "--json " ++ word account) refl
    ∙ (at_word flagged_sessions _ (codes "--json") (word account) refl
    ∙ ap (option_map (λ (octets : List ℕ). Sessions Json octets)) (words account is))
line_read words values digits (Free session) is =
    at_word command_with _ (codes "free") (session_words session) refl
    ∙ ap (option_map (λ (session : NamedSession). Free session)) (session_read words values digits session is)
line_read words values digits (Links listing) is =
    at_word command_with _ (codes "links") (listing_words listing) refl
    ∙ ap (option_map (λ (listing : Listing). Links listing)) (listing_read words values digits listing is)
line_read words values digits (FreeServer server) is =
    at_word command_with _ (codes "free-server") (named_server_words server) refl
    ∙ ap (option_map (λ (server : NamedServer). FreeServer server)) (server_read values digits server is)
line_read words values digits (Disconnect session) is =
    at_word command_with _ (codes "disconnect") (session_words session) refl
    ∙ ap (option_map (λ (session : NamedSession). Disconnect session)) (session_read words values digits session is)
line_read words values digits (Ask form) is = at_word command_with _ (codes "ask") form refl
