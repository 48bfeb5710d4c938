-- What the lines of a table are made of.
use Rattle.std.proofs.Common.{◌≡◌, ℕ, ◌+◌, ◌-◌, ◌<◌, ◌≤◌, ◌||◌, cond, List, [], ◌∷◌, ◌++◌, length, get_or, map, take, Option, nat_le, refl, sym, ap, subst, ◌∙◌, arith}
use Rattle.std.specs.Prelude.{codes}
use Rattle.std.specs.Char.{encode_utf8}
use Rattle.std.specs.Fmt.{decimal, char_count, format_spec, is_char_start, padded, styled_decimal, styled_text, take_chars}
use Rattle.std.specs.Io.KnownBytes.{Appends}
use Rattle.std.specs.List.{AllByRecursion, flat_map, repeat}
use Rattle.std.proofs.KnownBytes.{Appends-trans}
use Rattle.std.proofs.Padding.{char_count-nil, char_count-cons, padded_integral_right, repeat_ascii, take_chars_all}
use Rattle.std.proofs.lemmas.Bool.{lt-ltb}
use Rattle.std.proofs.lemmas.List.{flat_map_more, take_all, take_more}
use Rattle.std.proofs.lemmas.List.Elements.{recursion_from_All}
use Rattle.std.proofs.lemmas.List.Folds.{flat_map-map}
use Rattle.rsl_accounts.specs.Limits.{IsName}
use Rattle.rsl_record.specs.Table.{column, header, name_column, line}

-- the line of titles
pub titles : codes "name                   places     held reserved     live    stale     over\n" ≡ header
unfolding line
titles = refl

-- a number with the options of a column
pub number_text : (number : ℕ) → 32 ∷ styled_decimal (format_spec 32 3 0 8 18446744073709551615) number ≡ column (decimal number)
number_text number =
    ap (λ text. 32 ∷ text) (padded_integral_right (format_spec 32 3 0 8 18446744073709551615) (decimal number) refl refl (λ no. omega (arith, no)) (λ no. omega (arith, no)) (omega arith))

-- each octet of such a text is a character
chars_of : (text : List ℕ) → AllByRecursion (λ octet. (33 ≤ octet) × (octet ≤ 126)) text → char_count text ≡ length text
chars_of [] h = char_count-nil
chars_of (octet ∷ text) h =
    let low : octet < 128 = omega (arith, h.0.1) in
    let first : ◌≡◌ {A = ℕ} (cond (is_char_start octet) 1 0) 1 = ap (λ t. cond (t || nat_le 192 octet) 1 0) (lt-ltb octet 128 low) in
    omega (arith, char_count-cons octet text, first, chars_of text h.1)

padded_left : (text : List ℕ) → IsName text → padded (format_spec 32 1 0 20 18446744073709551615) text ≡ name_column text
unfolding padded
padded_left text name =
    let whole : take_chars 18446744073709551615 text ≡ text = take_chars_all 18446744073709551615 text (omega (arith, name.length)) in
    let chars = chars_of text (recursion_from_All _ text name.visible) in
    let room : 20 - char_count text - 0 ≡ 20 - length text = omega (arith, chars) in
    ap (λ (shown : List ℕ). shown ++ repeat (20 - char_count shown - 0) (encode_utf8 32)) whole
    ∙ ap (λ (n : ℕ). text ++ repeat n (encode_utf8 32)) room
    ∙ ap (λ (spaces : List ℕ). text ++ spaces) (repeat_ascii (20 - length text) 32 (omega arith))

-- a name with the options of its column
pub name_text : (name : List ℕ) → IsName name → styled_text (format_spec 32 1 0 20 18446744073709551615) name ≡ name_column name
name_text name is = padded_left name is

-- what is written of one element more
pub one_more : {X : Type 0} (f : X → List ℕ) (old now new : Option (List ℕ)) (front : List ℕ) (xs : List X) (i : ℕ) (x : X) → i < length xs → x ≡ get_or xs i x
    → Appends old now (front ++ flat_map f (take i xs)) → Appends now new (f x) → Appends old new (front ++ flat_map f (take (i + 1) xs))
one_more f old now new front xs i x lt is so_far more =
    subst (Appends old new)
    (flat_map_more f front (take i xs) x ∙ ap (λ y. front ++ flat_map f (take i xs ++ y ∷ [])) is ∙ ap (λ ys. front ++ flat_map f ys) (sym (take_more xs i x lt)))
    (Appends-trans old now new (front ++ flat_map f (take i xs)) (f x) so_far more)

-- after the last element all is written
pub all_more : {X : Type 0} (f : X → List ℕ) (old now : Option (List ℕ)) (front : List ℕ) (xs : List X) (i : ℕ) → length xs ≤ i
    → Appends old now (front ++ flat_map f (take i xs)) → Appends old now (front ++ flat_map f xs)
all_more f old now front xs i past so_far = subst (λ ys. Appends old now (front ++ flat_map f ys)) (take_all i xs past) so_far

line_is : (name numbers : List ℕ) → name_column name ++ flat_map (λ n. column (decimal n)) numbers ++ 10 ∷ [] ≡ line name (map decimal numbers)
unfolding line
line_is name numbers = ap (λ (columns : List ℕ). name_column name ++ columns ++ 10 ∷ []) (sym (flat_map-map column decimal numbers))

-- a line, after its line feed
pub line_done : (old now new : Option (List ℕ)) (name : List ℕ) (numbers : List ℕ) (i : ℕ) → length numbers ≤ i
    → Appends old now (name_column name ++ flat_map (λ n. column (decimal n)) (take i numbers)) → Appends now new (10 ∷ []) → Appends old new (line name (map decimal numbers))
line_done old now new name numbers i past so_far feed =
    subst (Appends old new) (line_is name numbers)
    (Appends-trans old now new _ (10 ∷ []) (all_more (λ n. column (decimal n)) old now (name_column name) numbers i past so_far) feed)
