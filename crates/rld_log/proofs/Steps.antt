-- What the calls of a paced log do to what a crash may leave of it.
use Rattle.std.proofs.Common.{◌≡◌, ◌⊎◌, inl, inr, ℕ, List, [], ◌∷◌, ◌++◌, refl, sym, ◌∙◌, ap, arith, append_assoc}
use Rattle.std.proofs.lemmas.List.{append-nil}
use Rattle.rld_log.specs.declared.log.Ending.{Ending}
use Rattle.rld_log.specs.declared.log.Ending.TheVariants.{Kill, PowerLoss}
use Rattle.rld_log.specs.Log.{Appends, Detects, Extends, Follows, Shortens, Tears}
use Rattle.rld_log.specs.declared.pace.Pace.{Pace}
use Rattle.rld_log.specs.declared.pace.Pace.TheVariants.{Always, Second, Never}
use Rattle.rld_log.specs.Pacing.{IsOnDisk, TearsOrShortens, reckoned}

-- what is left of a torn write at the ending that a crash is reckoned as is left of it at that ending
tears_more : (tears : List ℕ → List ℕ → Type 0) (pace : Pace) (ending : Ending) (octets tail : List ℕ)
    → Tears tears (reckoned pace ending) octets tail → Tears (TearsOrShortens tears) ending octets tail
tears_more tears Always Kill octets tail torn = torn
tears_more tears Always PowerLoss octets tail torn = inl torn
tears_more tears Second Kill octets tail torn = torn
tears_more tears Second PowerLoss octets tail torn = inr torn
tears_more tears Never Kill octets tail torn = torn
tears_more tears Never PowerLoss octets tail torn = inr torn

appends_more : (tears : List ℕ → List ℕ → Type 0) (pace : Pace) (ending : Ending) (octets old new : List ℕ)
    → Appends (Tears tears (reckoned pace ending)) octets old new → Appends (Tears (TearsOrShortens tears) ending) octets old new
appends_more tears pace ending octets old new added = record {
  tail = added.tail;
  added = added.added;
  torn = by_torn added.torn;
}
  where
    by_torn : (added.tail ≡ octets) ⊎ Tears tears (reckoned pace ending) octets added.tail → (added.tail ≡ octets) ⊎ Tears (TearsOrShortens tears) ending octets added.tail
    by_torn (inl whole) = inl whole
    by_torn (inr torn) = inr (tears_more tears pace ending octets added.tail torn)

pub append_crash : (tears : List ℕ → List ℕ → Type 0) (pace : Pace) (ending : Ending) (octets : List ℕ) (old new : List ℕ → Type 0)
    → Follows (Appends (Tears tears (reckoned pace ending)) octets) old new → Follows (Appends (Tears (TearsOrShortens tears) ending) octets) old new
append_crash tears pace ending octets old new follows left reached =
    let from = follows left reached in (from.0, from.1, appends_more tears pace ending octets from.0 left from.2)

-- a call that did nothing may have added nothing
shortens : (tears : List ℕ → List ℕ → Type 0) (ending : Ending) (octets tail : List ℕ) → Shortens octets tail → Tears (TearsOrShortens tears) ending octets tail
shortens tears Kill octets tail short = short
shortens tears PowerLoss octets tail short = inr short

nothing : (tears : List ℕ → List ℕ → Type 0) (ending : Ending) (octets old : List ℕ) → Appends (Tears (TearsOrShortens tears) ending) octets old old
nothing tears ending [] old = record { tail = []; added = sym (append-nil old); torn = inl refl }
nothing tears ending (o ∷ octets) old = record {
  tail = [];
  added = sym (append-nil old);
  torn = inr (shortens tears ending (o ∷ octets) [] (record { count = 0; few = omega arith; is = refl }));
}

pub no_append_crash : (tears : List ℕ → List ℕ → Type 0) (ending : Ending) (octets : List ℕ) (old : List ℕ → Type 0)
    → Follows (Appends (Tears (TearsOrShortens tears) ending) octets) old old
no_append_crash tears ending octets old left reached = (left, reached, nothing tears ending octets left)

-- what stands at the front stays there where something is added behind it
extends_more : (front old new tail : List ℕ) → Extends front old → new ≡ old ++ tail → Extends front new
extends_more front old new tail more is = record {
  tail = more.tail ++ tail;
  added = is ∙ ap (λ (x : List ℕ). x ++ tail) more.added ∙ append_assoc front more.tail tail;
}

pub append_on_disk : (by_power : List ℕ → List ℕ → Type 0) (front octets seen read : List ℕ) (old new : Ending → List ℕ → Type 0) → IsOnDisk front seen old → Extends seen read
    → ((ending : Ending) → Follows (Appends (Tears by_power ending) octets) (old ending) (new ending)) → IsOnDisk front read new
append_on_disk by_power front octets seen read old new there more follows = record {
  read = extends_more front seen read more.tail there.read more.added;
  left = λ ending left reached.
      let from = follows ending left reached in
      extends_more front from.0 left from.2.tail (there.left ending from.0 from.1) from.2.added;
}

-- the premise on MD5
pub detects_more : (tears : List ℕ → List ℕ → Type 0) → Detects Shortens → Detects tears → Detects (TearsOrShortens tears)
detects_more tears kills powers payload tail fits (inl torn) = powers payload tail fits torn
detects_more tears kills powers payload tail fits (inr short) = kills payload tail fits short
