-- A file is read in one way.
use Rattle.std.proofs.Common.{◌≡◌, ℕ, List, [], ◌∷◌, ◌++◌, length, take, drop, refl, sym, ◌∙◌, ap, subst, arith, append_assoc}
use Rattle.std.specs.List.{AllByRecursion}
use Rattle.std.specs.Coded.{coded_list, coded_ℕ}
use Rattle.std.proofs.Math.Logic.{∥∥₁_elim}
use Rattle.std.proofs.lemmas.List.{append-nil, drop_at, take_at}
use denote.Struct.Props.{≡_prop}
use mathlib.Core.HLevel.{⊥_prop}
use Rattle.std.proofs.lemmas.List.Concat.{flat_map-append}
use Rattle.rld_log.specs.Frames.{EndsAt, Fits, HasFrame, HasPayloads, IsBlock, IsDamagedAt, IsTorn, NoBlock, NoFrame, block, digest, first, frame, frames}
use Rattle.rld_log.specs.Log.{Detects, Shortens}
use Rattle.rld_log.specs.Passing.{HasPassed}
use Rattle.rld_log.proofs.Blocks.{frame_shape, no_block_has_none, one_block, shortened, too_short}

-- octets in which no frame stands have none at their front
pub torn_has_none : (tail : List ℕ) → IsTorn tail → NoFrame tail
torn_has_none tail torn payload rest fits is = torn (first tail payload rest fits is)

-- the rests of two readings are one, too
pub record AreOne (ps qs : List (List ℕ)) (x y : List ℕ) : Type 0 where
  pub payloads : ps ≡ qs
  pub rests : x ≡ y

pub one_reading : (ps qs : List (List ℕ)) (x y : List ℕ) → AllByRecursion Fits ps → AllByRecursion Fits qs → NoFrame x → NoFrame y
    → frames ps ++ x ≡ frames qs ++ y → AreOne ps qs x y
one_reading [] [] x y fp fq nx ny same = record { payloads = refl; rests = same }
one_reading [] (q ∷ qs) x y fp fq nx ny same =
    absurd (nx q (frames qs ++ y) fq.0 (same ∙ append_assoc (frame q) (frames qs) y))
one_reading (p ∷ ps) [] x y fp fq nx ny same =
    absurd (ny p (frames ps ++ x) fp.0 (sym same ∙ append_assoc (frame p) (frames ps) x))
one_reading (p ∷ ps) (q ∷ qs) x y fp fq nx ny same =
    let both = one_block (frame p ++ (frames ps ++ x)) (digest p) p (frames ps ++ x) (digest q) q (frames qs ++ y) (frame_shape p fp.0) (frame_shape q fq.0) refl
    (sym (append_assoc (frame p) (frames ps) x) ∙ same ∙ append_assoc (frame q) (frames qs) y) in
    let rest = one_reading ps qs x y fp.1 fq.1 nx ny both.rests in
    record {
      payloads = ap (λ (l : List (List ℕ)). p ∷ l) rest.payloads ∙ ap (λ (z : List ℕ). z ∷ qs) both.payloads;
      rests = rest.rests;
    }

pub have_one_reading : (file : List ℕ) (some other : List (List ℕ)) → HasPayloads file some → HasPayloads file other → some ≡ other
have_one_reading file some other a b =
    (one_reading some other a.tail b.tail a.fit b.fit (torn_has_none a.tail a.torn) (torn_has_none b.tail b.torn) (sym a.parts ∙ b.parts)).payloads

pub have_no_reading : (file : List ℕ) (at : ℕ) (payloads : List (List ℕ)) → IsDamagedAt file at → HasPayloads file payloads → ⊥
have_no_reading file at payloads damaged has =
    let same = one_reading damaged.payloads payloads damaged.tail has.tail damaged.fit has.fit damaged.spoilt (torn_has_none has.tail has.torn) (sym damaged.parts ∙ has.parts) in
    has.torn (subst (λ (x : List ℕ). HasFrame x) same.rests damaged.later)

pub have_one_offset : (file : List ℕ) (some other : ℕ) → IsDamagedAt file some → IsDamagedAt file other → some ≡ other
have_one_offset file some other a b =
    let same = one_reading a.payloads b.payloads a.tail b.tail a.fit b.fit a.spoilt b.spoilt (sym a.parts ∙ b.parts) in
    a.offset ∙ ap (λ (l : List (List ℕ)). length (frames l)) same.payloads ∙ sym b.offset

pub kills_are_detected : Detects Shortens
kills_are_detected payload tail fits cut = no_block_has_none tail (shortened (digest payload) payload tail (frame_shape payload fits) cut)

pub nothing_is_torn : IsTorn []
nothing_is_torn = no_block_has_none [] (too_short [] (omega arith))

fits_more : (ps : List (List ℕ)) (p : List ℕ) → AllByRecursion Fits ps → Fits p → AllByRecursion Fits (ps ++ p ∷ [])
fits_more [] p fit fits = (fits, tt)
fits_more (q ∷ ps) p fit fits = (fit.0, fits_more ps p fit.1 fits)

pub all_fit_more : (ps : List (List ℕ)) (p : List ℕ) → AllByRecursion Fits ps → Fits p → AllByRecursion Fits (ps ++ p ∷ [])
all_fit_more = fits_more

pub frames_more : (ps : List (List ℕ)) (p : List ℕ) → frames (ps ++ p ∷ []) ≡ frames ps ++ frame p
frames_more ps p = flat_map-append frame ps (p ∷ []) ∙ ap (λ (l : List ℕ). frames ps ++ l) (append-nil (frame p))

-- one frame more was passed
pub pass_one : (octets rest after payload : List ℕ) (ps : List (List ℕ)) → HasPassed octets ps rest → Fits payload → rest ≡ frame payload ++ after → HasPassed octets (ps ++ payload ∷ []) after
pass_one octets rest after payload ps passed fits is = record {
  parts = passed.parts ∙ ap (λ (x : List ℕ). frames ps ++ x) is ∙ sym (append_assoc (frames ps) (frame payload) after) ∙ ap (λ (x : List ℕ). x ++ after) (sym (frames_more ps payload));
  fit = fits_more ps payload passed.fit fits;
}

-- ---- whole frames, walked by their lengths

-- these of the payloads were found, and the frames of the others are left
pub record IsLeft (payloads found : List (List ℕ)) (left : List ℕ) : Type 0 where
  pub rest : List (List ℕ)
  pub all : payloads ≡ found ++ rest
  pub left_is : left ≡ frames rest
  pub fit : AllByRecursion Fits rest

pub left_more : (payloads found : List (List ℕ)) (left sum payload after : List ℕ) → IsBlock sum payload → left ≡ block sum payload ++ after → IsLeft payloads found left → IsLeft payloads (found ++ payload ∷ []) after
left_more payloads found left sum payload after shape is so = by so.rest so.all so.left_is so.fit
  where
    by : (rest : List (List ℕ)) → payloads ≡ found ++ rest → left ≡ frames rest → AllByRecursion Fits rest → IsLeft payloads (found ++ payload ∷ []) after
    by [] all none fit = absurd (too_short left (omega (arith, ap length none)) sum payload after shape is)
    by (p ∷ rest) all some fit =
        let same = one_block left sum payload after (digest p) p (frames rest) shape (frame_shape p fit.0) is some in
        record {
          rest = rest;
          all = all ∙ ap (λ (q : List ℕ). found ++ q ∷ rest) (sym same.payloads) ∙ sym (append_assoc found (payload ∷ []) rest);
          left_is = same.rests;
          fit = fit.1;
        }

pub none_left : (payloads found : List (List ℕ)) (left : List ℕ) → NoBlock left → IsLeft payloads found left → found ≡ payloads
none_left payloads found left none so = by so.rest so.all so.left_is so.fit
  where
    by : (rest : List (List ℕ)) → payloads ≡ found ++ rest → left ≡ frames rest → AllByRecursion Fits rest → found ≡ payloads
    by [] all is fit = sym (all ∙ append-nil found)
    by (p ∷ rest) all is fit = absurd (none (digest p) p (frames rest) (frame_shape p fit.0) is)

-- ---- what a file of whole frames is known by

pub ends_so : (file : List ℕ) (len : ℕ) → ∥ EndsAt file len ∥₁ → (payloads : List (List ℕ)) → HasPayloads file payloads → len ≡ length (frames payloads)
ends_so file len known payloads has =
    ∥∥₁_elim known (≡_prop coded_ℕ _ _) (λ ends. ends.size ∙ ap (λ (l : List (List ℕ)). length (frames l)) (have_one_reading file ends.payloads payloads ends.has has))

torn_is : (file : List ℕ) (len : ℕ) (ends : EndsAt file len) → drop len file ≡ ends.has.tail
torn_is file len ends = ap (λ (x : List ℕ). drop len x) ends.has.parts ∙ drop_at (frames ends.payloads) ends.has.tail len (sym ends.size)

front_is : (file : List ℕ) (len : ℕ) (ends : EndsAt file len) → take len file ≡ frames ends.payloads
front_is file len ends = ap (λ (x : List ℕ). take len x) ends.has.parts ∙ take_at (frames ends.payloads) ends.has.tail len (sym ends.size)

pub ends_have : (file front : List ℕ) (len : ℕ) (found : List (List ℕ)) → ∥ EndsAt file len ∥₁ → front ≡ take len file → AllByRecursion Fits found
    → ((payloads : List (List ℕ)) → AllByRecursion Fits payloads → front ≡ frames payloads → found ≡ payloads) → HasPayloads file found
ends_have file front len found known is fit so = record {
  tail = drop len file;
  parts = ∥∥₁_elim known (≡_prop (coded_list coded_ℕ) _ _) (λ ends.
      ends.has.parts ∙ ap (λ (l : List (List ℕ)). frames l ++ ends.has.tail) (sym (so ends.payloads ends.has.fit (is ∙ front_is file len ends)))
      ∙ ap (λ (x : List ℕ). frames found ++ x) (sym (torn_is file len ends)));
  fit = fit;
  torn = λ has. ∥∥₁_elim known ⊥_prop (λ ends. ends.has.torn (subst (λ (x : List ℕ). HasFrame x) (torn_is file len ends) has));
}
