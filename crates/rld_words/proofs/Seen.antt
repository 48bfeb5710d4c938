-- What is asked of the flags that are given is asked of those that a definition sees.
use Rattle.std.proofs.Common.{◌≡◌, ◌||◌, refl, ap, Bool, true, false, List, [], ◌∷◌, map}
use Rattle.std.specs.Prelude.{ℕ, cond, find, Option, Some, option_map}
use Rattle.std.specs.List.{list_any}
use Rattle.rld_words.specs.Flags.{is_same}
use Rattle.rld_words.specs.Given.{is_of, used_as}
use Rattle.rld_words.specs.declared.flag.Flag.{Flag}
use Rattle.rld_words.specs.declared.given.Used.{Used}

list_any-map : {X Y : Type 0} (p : Y → Bool) (f : X → Y) (xs : List X) →
    list_any p (map f xs) ≡ list_any (λ x. p (f x)) xs
list_any-map p f [] = refl
list_any-map p f (x ∷ xs) = ap (λ b. p (f x) || b) (list_any-map p f xs)

pub has_seen : (flag : Flag) (given : List Used) →
    list_any (is_of flag) (map used_as given) ≡ list_any (λ (used : Used). is_same used.flag flag) given
has_seen flag given = list_any-map (is_of flag) used_as given

one_more : (is : Bool) (used : Used) (given : Option Used) (seen : Option (Flag × List ℕ)) →
    option_map (λ word. word.now) (option_map (λ (used : Used). used.value) given) ≡ option_map (λ (used : Flag × List ℕ). used.1) seen →
    option_map (λ word. word.now) (option_map (λ (used : Used). used.value) (cond is (Some used) given))
    ≡ option_map (λ (used : Flag × List ℕ). used.1) (cond is (Some (used_as used)) seen)
one_more true used given seen same = refl
one_more false used given seen same = same

pub value_seen : (flag : Flag) (given : List Used) →
    option_map (λ word. word.now) (option_map (λ (used : Used). used.value) (find (λ (used : Used). is_same used.flag flag) given))
    ≡ option_map (λ (used : Flag × List ℕ). used.1) (find (is_of flag) (map used_as given))
value_seen flag [] = refl
value_seen flag (used ∷ given) = one_more (is_same used.flag flag) used _ _ (value_seen flag given)
