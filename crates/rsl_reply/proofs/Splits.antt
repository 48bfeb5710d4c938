-- `split_at` gives the parts round the first separator.
use Rattle.std.proofs.Common.{◌≡◌, ℕ, ◌<◌, ◌==◌, List, length, Bool, true, false, Option, None, Some, Bor, nat_lt, option_map, refl, arith}
use Rattle.std.specs.List.{position_or_len, before_first, after_first}
use Rattle.std.specs.Option.{MatchOption}
use borrow.Author.Tests.{ltb-true, lt-ltb}
use Rattle.rsl_reply.specs.Words.{split_at}

abbrev Parts : Type 0
Parts = Bor (List ℕ) × Bor (List ℕ)

abbrev parts_seen : Parts → List ℕ × List ℕ
parts_seen parts = (parts.0.now, parts.1.now)

pub split_found : (separator : ℕ) (text : List ℕ) (r : Option Parts)
    → MatchOption r (position_or_len (λ octet. octet == separator) text ≡ length text)
    (λ (parts : Parts). (parts.0.now ≡ before_first (λ octet. octet == separator) text) × (parts.1.now ≡ after_first (λ octet. octet == separator) text) × (position_or_len (λ octet. octet == separator) text < length text))
    → option_map parts_seen r ≡ split_at separator text
unfolding split_at
split_found separator text None lacks = by (nat_lt (position_or_len (λ octet. octet == separator) text) (length text)) refl
  where
    by : (b : Bool) → nat_lt (position_or_len (λ octet. octet == separator) text) (length text) ≡ b → option_map parts_seen None ≡ split_at separator text
    by true e = absurd (omega (arith, lacks, ltb-true _ _ e))
    by false e = rw e
split_found separator text (Some parts) found =
    rw (lt-ltb (position_or_len (λ octet. octet == separator) text) (length text) found.2) (λ k. Some (found.0 k, found.1 k))
