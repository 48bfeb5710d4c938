-- What recording leaves of a log.
use Rattle.std.proofs.Common.{◌≡◌, ◌⊎◌, inl, inr, ℕ, List, [], ◌∷◌, ◌++◌, length, take, sym, ◌∙◌, ap, subst, append_assoc}
use Rattle.std.specs.List.{AllByRecursion}
use Rattle.std.proofs.lemmas.List.{append-nil, take_at}
use Rattle.rld_log.specs.declared.log.Ending.{Ending}
use Rattle.rld_log.specs.declared.log.Ending.TheVariants.{Kill, PowerLoss}
use Rattle.rld_log.specs.Frames.{Fits, HasPayloads, frame, frames}
use Rattle.rld_log.specs.Log.{Appends, Cuts, Detects, Extends, Follows, Only, Premise, Tears}
use Rattle.rld_log.specs.Recording.{IsBeforeOrAfter, IsSettled, LeavesEither}
use Rattle.rld_log.proofs.Readings.{all_fit_more, frames_more, kills_are_detected, nothing_is_torn}

-- whole frames are a file
pub whole_has : (file : List ℕ) (payloads : List (List ℕ)) → AllByRecursion Fits payloads → file ≡ frames payloads → HasPayloads file payloads
whole_has file payloads fit is = record {
  tail = [];
  parts = is ∙ sym (append-nil (frames payloads));
  fit = fit;
  torn = nothing_is_torn;
}

-- the outcomes of a call on a file that is the only outcome before it
follows_only : (file : List ℕ) (step : List ℕ → List ℕ → Type 0) (old new : List ℕ → Type 0) → ((left : List ℕ) → old left → left ≡ file) → Follows step old new
    → (left : List ℕ) → new left → step file left
follows_only file step old new only follows left reached =
    let from = follows left reached in subst (λ (d : List ℕ). step d left) (only from.0 from.1) from.2

-- no torn write of a frame passes for one, at each ending under its premise
detected : (by_power : List ℕ → List ℕ → Type 0) (ending : Ending) → Premise by_power ending → Detects (Tears by_power ending)
detected by_power Kill premise = kills_are_detected
detected by_power PowerLoss premise = premise

-- a crash in an append leaves the payloads from before it, with that of the frame or without
append_leaves : (tears : List ℕ → List ℕ → Type 0) (file : List ℕ) (before : List (List ℕ)) (payload : List ℕ) → Detects tears → Fits payload → AllByRecursion Fits before → file ≡ frames before
    → (left : List ℕ) → Appends tears (frame payload) file left → IsBeforeOrAfter before payload left
append_leaves tears file before payload detects fits fit is left added = by_torn added.torn
  where
    by_torn : (added.tail ≡ frame payload) ⊎ tears (frame payload) added.tail → IsBeforeOrAfter before payload left
    by_torn (inl whole) =
        inr (whole_has left (before ++ payload ∷ []) (all_fit_more before payload fit fits)
        (added.added ∙ ap (λ (x : List ℕ). x ++ added.tail) is ∙ ap (λ (x : List ℕ). frames before ++ x) whole ∙ sym (frames_more before payload)))
    by_torn (inr torn) = inl (record {
      tail = added.tail;
      parts = added.added ∙ ap (λ (x : List ℕ). x ++ added.tail) is;
      fit = fit;
      torn = detects payload added.tail fits torn;
    })

pub write_crash : (by_power : List ℕ → List ℕ → Type 0) (seen octets : List ℕ) (old new : Ending → List ℕ → Type 0) (before : List (List ℕ)) (payload : List ℕ) (ending : Ending) → Fits payload → IsSettled seen old before
    → Premise by_power ending → octets ≡ frame payload → Follows (Appends (Tears by_power ending) octets) (old ending) (new ending) → LeavesEither (new ending) before payload
write_crash by_power seen octets old new before payload ending fits settled premise is follows left reached =
    append_leaves (Tears by_power ending) seen before payload (detected by_power ending premise) fits settled.fit settled.whole left
    (subst (λ (o : List ℕ). Appends (Tears by_power ending) o seen left) is (follows_only seen (Appends (Tears by_power ending) octets) (old ending) (new ending) (settled.durable ending) follows left reached))

-- before any call
pub still : (seen : List ℕ) (may_leave : Ending → List ℕ → Type 0) (before : List (List ℕ)) (payload : List ℕ) (ending : Ending) → IsSettled seen may_leave before → LeavesEither (may_leave ending) before payload
still seen may_leave before payload ending settled left reached = inl (whole_has left before settled.fit (settled.durable ending left reached ∙ settled.whole))

-- a frame more is settled
pub settled_more : (seen new : List ℕ) (old may_leave : Ending → List ℕ → Type 0) (before : List (List ℕ)) (payload : List ℕ) → Fits payload → IsSettled seen old before → new ≡ seen ++ frame payload → Only new may_leave
    → IsSettled new may_leave (before ++ payload ∷ [])
settled_more seen new old may_leave before payload fits settled is only = record {
  whole = is ∙ ap (λ (x : List ℕ). x ++ frame payload) settled.whole ∙ sym (frames_more before payload);
  fit = all_fit_more before payload settled.fit fits;
  durable = only;
}

pub settled_leaves : (seen new : List ℕ) (old may_leave : Ending → List ℕ → Type 0) (before : List (List ℕ)) (payload : List ℕ) (ending : Ending) → Fits payload → IsSettled seen old before → new ≡ seen ++ frame payload
    → Only new may_leave → LeavesEither (may_leave ending) before payload
settled_leaves seen new old may_leave before payload ending fits settled is only left reached =
    let now = settled_more seen new old may_leave before payload fits settled is only in
    inr (whole_has left (before ++ payload ∷ []) now.fit (now.durable ending left reached ∙ now.whole))

-- cutting what stands behind the frames of some payloads
pub cut_behind : (seen : List ℕ) (before : List (List ℕ)) (len : ℕ) → len ≡ length (frames before) → Extends (frames before) seen → take len seen ≡ frames before
cut_behind seen before len is more = ap (λ (x : List ℕ). take len x) more.added ∙ take_at (frames before) more.tail len (sym is)

-- a crash in that cut leaves either list of payloads, as before it
either_extends : (file : List ℕ) (before : List (List ℕ)) (payload : List ℕ) → IsBeforeOrAfter before payload file → Extends (frames before) file
either_extends file before payload (inl has) = record { tail = has.tail; added = has.parts }
either_extends file before payload (inr has) = record {
  tail = frame payload ++ has.tail;
  added = has.parts ∙ ap (λ (x : List ℕ). x ++ has.tail) (frames_more before payload) ∙ append_assoc (frames before) (frame payload) has.tail;
}

cut_either : (file left : List ℕ) (before : List (List ℕ)) (payload : List ℕ) (len : ℕ) → AllByRecursion Fits before → len ≡ length (frames before) → IsBeforeOrAfter before payload file → Cuts len file left → IsBeforeOrAfter before payload left
cut_either file left before payload len fit is either (inl same) = subst (λ (f : List ℕ). IsBeforeOrAfter before payload f) (sym same) either
cut_either file left before payload len fit is either (inr cut) =
    inl (whole_has left before fit (cut ∙ cut_behind file before len is (either_extends file before payload either)))

pub mend_crash : (old new : List ℕ → Type 0) (before : List (List ℕ)) (payload : List ℕ) (len : ℕ) → AllByRecursion Fits before → len ≡ length (frames before) → LeavesEither old before payload → Follows (Cuts len) old new
    → LeavesEither new before payload
mend_crash old new before payload len fit is either follows left reached =
    let from = follows left reached in cut_either from.0 left before payload len fit is (either from.0 from.1) from.2

-- what mending leaves once it is on the disk
pub mended_leaves : (seen cut left : List ℕ) (before : List (List ℕ)) (payload : List ℕ) (len : ℕ) → AllByRecursion Fits before → len ≡ length (frames before) → Extends (frames before) seen
    → cut ≡ take len seen → left ≡ cut → IsBeforeOrAfter before payload left
mended_leaves seen cut left before payload len fit is more done same = inl (whole_has left before fit (same ∙ done ∙ cut_behind seen before len is more))
