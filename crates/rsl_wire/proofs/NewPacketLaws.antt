-- Attributes that are written one after another into what is left of a packet.
use Rattle.std.proofs.Common.{◌≡◌, ℕ, suc, ◌+◌, ◌<◌, ◌≤◌, List, [], ◌∷◌, ◌++◌, length, map, get_or, take, drop, refl, sym, ap, subst, ◌∙◌, append_assoc, arith}
use Rattle.std.specs.List.{AllByRecursion}
use Rattle.std.proofs.lemmas.List.{length-append, take_more, append-nil, map_push, drop-append-le, drop_all}
use Rattle.std.proofs.lemmas.List.Concat.{flat_map-cons, flat_map-append}
use Rattle.std.proofs.Math.Seq.{drop-cons}
use Rattle.rsl_wire.specs.Attributes.{Attribute, attribute_of, attribute_octets, list_octets}
use Rattle.rsl_wire.specs.DraftSeen.{Begun}
use Rattle.rsl_wire.specs.NewPacket.{seen, FitsPacket}
use Rattle.rsl_wire.specs.declared.attr.Attr.{Attr}

-- what octets with a header are seen as, and a draft with more attributes
abbrev pub begun_with : ℕ → List ℕ → Begun
begun_with id attributes = record { id = id; attributes = attributes }

abbrev pub begun_of : List ℕ → Begun
begun_of octets = begun_with (get_or octets 1 0) (drop 20 octets)

abbrev pub with_attribute : Begun → List ℕ → Begun
with_attribute begun octets = begun_with begun.id (begun.attributes ++ octets)

-- the attributes fit after the octets that stand already
pub record FitsFrom (len : ℕ) (attributes : List Attribute) : Type 0 where
  pub values : AllByRecursion (λ attribute. length attribute.value ≤ 253) attributes
  pub whole : len + length (list_octets attributes) ≤ 4096

length-cons : (first : Attribute) (attributes : List Attribute) → length (list_octets (first ∷ attributes)) ≡ 2 + length first.value + length (list_octets attributes)
length-cons first attributes = ap (λ (x : List ℕ). length x) (flat_map-cons attribute_octets first attributes) ∙ omega (arith, length-append (attribute_octets first) (list_octets attributes))

pub fits_start : (attributes : List Attribute) → FitsPacket attributes → FitsFrom 20 attributes
fits_start attributes fits = record { values = fits.values; whole = fits.whole }

pub fits_back : (attributes : List Attribute) → FitsFrom 20 attributes → FitsPacket attributes
fits_back attributes fits = record { values = fits.values; whole = fits.whole }

pub fits_first : (len : ℕ) (first : Attribute) (attributes : List Attribute) → FitsFrom len (first ∷ attributes) → (length first.value ≤ 253) × (len + (2 + length first.value) ≤ 4096) × FitsFrom (len + (2 + length first.value)) attributes
fits_first len first attributes fits =
    let l = length-cons first attributes in
    let whole = fits.whole in
    (fits.values.0, omega (arith, l, whole), record { values = fits.values.1; whole = omega (arith, l, whole) })

pub fits_more : (len : ℕ) (first : Attribute) (attributes : List Attribute) → length first.value ≤ 253 → FitsFrom (len + (2 + length first.value)) attributes → FitsFrom len (first ∷ attributes)
fits_more len first attributes short fits =
    let l = length-cons first attributes in
    let whole = fits.whole in
    record { values = (short, fits.values); whole = omega (arith, l, whole) }

pub fits_end : (len : ℕ) → len ≤ 4096 → FitsFrom len []
fits_end len le = record { values = tt; whole = omega arith }

-- what is left to write, at an index
pub rest_at : (xs : List Attr) (i : ℕ) (none : Attr) → i < length xs → map seen (drop i xs) ≡ seen (get_or xs i none) ∷ map seen (drop (i + 1) xs)
rest_at xs i none lt =
    let next : suc i ≡ i + 1 = omega arith in
    ap (map seen) (drop-cons xs i none lt ∙ ap (λ (k : ℕ). get_or xs i none ∷ drop k xs) next)

pub written_more : (xs : List Attr) (i : ℕ) (none : Attr) → i < length xs → list_octets (map seen (take (i + 1) xs)) ≡ list_octets (map seen (take i xs)) ++ attribute_octets (seen (get_or xs i none))
written_more xs i none lt =
    ap (λ (x : List Attr). list_octets (map seen x)) (take_more xs i none lt)
    ∙ ap list_octets (map_push seen (take i xs) (get_or xs i none))
    ∙ flat_map-append attribute_octets (map seen (take i xs)) (seen (get_or xs i none) ∷ [])
    ∙ ap (λ (x : List ℕ). list_octets (map seen (take i xs)) ++ x) (append-nil (attribute_octets (seen (get_or xs i none))))

second : (octets more : List ℕ) → 20 ≤ length octets → get_or (octets ++ more) 1 0 ≡ get_or octets 1 0
second [] more long = absurd (omega arith)
second (a ∷ []) more long = absurd (omega arith)
second (a ∷ b ∷ octets) more long = refl

-- what a draft is seen as after octets that were written at its end
pub begun_more : (octets header value : List ℕ) → 20 ≤ length octets → (get_or ((octets ++ header) ++ value) 1 0 ≡ get_or octets 1 0) × (drop 20 ((octets ++ header) ++ value) ≡ drop 20 octets ++ (header ++ value))
begun_more octets header value long = (
  ap (λ (x : List ℕ). get_or x 1 0) (append_assoc octets header value) ∙ second octets (header ++ value) long,
  ap (drop 20) (append_assoc octets header value) ∙ drop-append-le 20 octets (header ++ value) long,
)

-- one attribute more is counted
pub fits_step : (all : List Attribute) (xs : List Attr) (i : ℕ) (none : Attr) (len : ℕ) → i < length xs → length (get_or xs i none).value.now ≤ 253
    → (FitsPacket all → FitsFrom len (map seen (drop i xs))) → (FitsFrom len (map seen (drop i xs)) → FitsPacket all)
    → (FitsPacket all → FitsFrom (len + (2 + length (get_or xs i none).value.now)) (map seen (drop (i + 1) xs))) × (FitsFrom (len + (2 + length (get_or xs i none).value.now)) (map seen (drop (i + 1) xs)) → FitsPacket all)
fits_step all xs i none len lt short forth back =
    let at = rest_at xs i none lt in (
      λ fits. (fits_first len (seen (get_or xs i none)) (map seen (drop (i + 1) xs)) (subst (FitsFrom len) at (forth fits))).2,
      λ fits. back (subst (FitsFrom len) (sym at) (fits_more len (seen (get_or xs i none)) (map seen (drop (i + 1) xs)) short fits)),
    )

-- the octets so far, with the next attribute
pub fits_here : (len : ℕ) (xs : List Attr) (i : ℕ) (none : Attr) → i < length xs → FitsFrom len (map seen (drop i xs)) → (length (get_or xs i none).value.now ≤ 253) × (len + (2 + length (get_or xs i none).value.now) ≤ 4096) × FitsFrom (len + (2 + length (get_or xs i none).value.now)) (map seen (drop (i + 1) xs))
fits_here len xs i none lt fits = fits_first len (seen (get_or xs i none)) (map seen (drop (i + 1) xs)) (subst (FitsFrom len) (rest_at xs i none lt) fits)

pub fits_all : (len : ℕ) (xs : List Attr) (i : ℕ) → length xs ≤ i → len ≤ 4096 → FitsFrom len (map seen (drop i xs))
fits_all len xs i past le = subst (λ (x : List Attr). FitsFrom len (map seen x)) (sym (drop_all i xs past)) (fits_end len le)

-- a draft after an attribute that was written at its end
pub pushed_is : (octets headed whole value : List ℕ) (kind n : ℕ) (begun : Begun) → 20 ≤ length octets → n ≡ 2 + length value
    → headed ≡ octets ++ kind ∷ n ∷ [] → whole ≡ headed ++ value → begun_of octets ≡ begun
    → begun_of whole ≡ with_attribute begun (attribute_octets (attribute_of kind value))
pushed_is octets headed whole value kind n begun long len e f seen_as =
    let joined : whole ≡ (octets ++ kind ∷ n ∷ []) ++ value = f ∙ ap (λ (x : List ℕ). x ++ value) e in
    let m = begun_more octets (kind ∷ n ∷ []) value long in
    let id_is : get_or whole 1 0 ≡ begun.id = ap (λ (x : List ℕ). get_or x 1 0) joined ∙ m.0 ∙ ap (λ (b : Begun). b.id) seen_as in
    let attributes_are : drop 20 whole ≡ begun.attributes ++ attribute_octets (attribute_of kind value) =
    ap (drop 20) joined ∙ m.1 ∙ ap (λ (x : List ℕ). x ++ (kind ∷ n ∷ value)) (ap (λ (b : Begun). b.attributes) seen_as) ∙ ap (λ (k : ℕ). begun.attributes ++ (kind ∷ k ∷ value)) len in
    λ i. record { id = id_is i; attributes = attributes_are i }

-- a draft after octets that were written at its end
pub appended_is : (octets whole more : List ℕ) (begun : Begun) → 20 ≤ length octets → whole ≡ octets ++ more → begun_of octets ≡ begun
    → begun_of whole ≡ record { id = begun.id; attributes = begun.attributes ++ more }
appended_is octets whole more begun long e seen_as =
    let joined : whole ≡ (octets ++ []) ++ more = e ∙ ap (λ (x : List ℕ). x ++ more) (sym (append-nil octets)) in
    let m = begun_more octets [] more long in
    let id_is : get_or whole 1 0 ≡ begun.id = ap (λ (x : List ℕ). get_or x 1 0) joined ∙ m.0 ∙ ap (λ (b : Begun). b.id) seen_as in
    let attributes_are : drop 20 whole ≡ begun.attributes ++ more =
    ap (drop 20) joined ∙ m.1 ∙ ap (λ (x : List ℕ). x ++ more) (ap (λ (b : Begun). b.attributes) seen_as) in
    λ i. record { id = id_is i; attributes = attributes_are i }

-- one attribute more is written
pub written_step : (draft after : Begun) (id : ℕ) (xs : List Attr) (i : ℕ) (none : Attr) → i < length xs → draft ≡ begun_with id (list_octets (map seen (take i xs)))
    → after ≡ with_attribute draft (attribute_octets (seen (get_or xs i none))) → after ≡ begun_with id (list_octets (map seen (take (i + 1) xs)))
written_step draft after id xs i none lt so_far e =
    e ∙ ap (λ (d : Begun). with_attribute d (attribute_octets (seen (get_or xs i none)))) so_far ∙ ap (begun_with id) (sym (written_more xs i none lt))

pub written_rest : (draft after : Begun) (xs : List Attr) (i : ℕ) (none : Attr) → i < length xs → after ≡ with_attribute draft (attribute_octets (seen (get_or xs i none)))
    → FitsFrom (20 + length draft.attributes) (map seen (drop i xs)) → FitsFrom (20 + length after.attributes) (map seen (drop (i + 1) xs))
written_rest draft after xs i none lt e fits =
    let len : 20 + length draft.attributes + (2 + length (get_or xs i none).value.now) ≡ 20 + length after.attributes =
    omega (arith, ap (λ (d : Begun). length d.attributes) e, length-append draft.attributes (attribute_octets (seen (get_or xs i none)))) in
    subst (λ (k : ℕ). FitsFrom k (map seen (drop (i + 1) xs))) len (fits_here (20 + length draft.attributes) xs i none lt fits).2
