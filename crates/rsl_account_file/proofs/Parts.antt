-- The parts of a file, as a loop over their tables reads them.
use Rattle.std.proofs.Common.{◌≡◌, ℕ, ◌+◌, ◌<◌, List, [], ◌∷◌, ◌++◌, map, length, get_or, take, drop, Result, Ok, Err, refl, sym, ap, ◌∙◌}
use Rattle.std.proofs.lemmas.List.{take_more, drop_more, map-append, take-append-drop}
use Rattle.toml.specs.Data.{Data}
use Rattle.toml.specs.View.{view}
use Rattle.toml.specs.declared.value.Value.{Value}
use Rattle.rsl_accounts.specs.declared.fault.ConfigFault.{ConfigFault}
use Rattle.rsl_account_file.specs.File.{each}

module _ {T : Type 0} (part_in : Data → Result T ConfigFault) where
  -- one more part at the end
  each_push : (values : List Data) (value : Data) (parts : List T) (part : T) → each part_in values ≡ Ok parts → part_in value ≡ Ok part → each part_in (values ++ value ∷ []) ≡ Ok (parts ++ part ∷ [])
  each_push [] value parts part read reads =
      let none : [] ≡ parts = cc in
      rw reads (ap (λ l. Ok (l ++ part ∷ [])) none)
  each_push (first ∷ values) value parts part read reads = by (λ xs are. each_push values value xs part are reads) (part_in first) refl (each part_in values) refl
    where
      by : ((xs : List T) → each part_in values ≡ Ok xs → each part_in (values ++ value ∷ []) ≡ Ok (xs ++ part ∷ [])) → (one : Result T ConfigFault) → part_in first ≡ one → (rest : Result (List T) ConfigFault) → each part_in values ≡ rest
          → each part_in ((first ∷ values) ++ value ∷ []) ≡ Ok (parts ++ part ∷ [])
      by pushed (Ok x) is (Ok xs) are =
          let found : Ok (x ∷ xs) ≡ Ok parts = rw (is, are) at read in
          let same : x ∷ xs ≡ parts = cc in
          rw (is, pushed xs are) (ap (λ l. Ok (l ++ part ∷ [])) same)
      by pushed (Ok x) is (Err fault) are =
          let found : Err fault ≡ Ok parts = rw (is, are) at read in
          cc
      by pushed (Err fault) is rest are =
          let found : Err fault ≡ Ok parts = rw is at read in
          cc

  -- the first fault, whatever follows
  each_fails : (values : List Data) (value : Data) (more : List Data) (parts : List T) (fault : ConfigFault) → each part_in values ≡ Ok parts → part_in value ≡ Err fault → each part_in (values ++ value ∷ more) ≡ Err fault
  each_fails [] value more parts fault read fails = rw fails
  each_fails (first ∷ values) value more parts fault read fails = by (λ xs are. each_fails values value more xs fault are fails) (part_in first) refl (each part_in values) refl
    where
      by : ((xs : List T) → each part_in values ≡ Ok xs → each part_in (values ++ value ∷ more) ≡ Err fault) → (one : Result T ConfigFault) → part_in first ≡ one → (rest : Result (List T) ConfigFault) → each part_in values ≡ rest
          → each part_in ((first ∷ values) ++ value ∷ more) ≡ Err fault
      by failed (Ok x) is (Ok xs) are = rw (is, failed xs are)
      by failed (Ok x) is (Err other) are =
          let found : Err other ≡ Ok parts = rw (is, are) at read in
          cc
      by failed (Err other) is rest are =
          let found : Err other ≡ Ok parts = rw is at read in
          cc

  module _ (tables : List Value) (i : ℕ) (x : Value) (within : i < length tables) (is : x ≡ get_or tables i x) (parts : List T) (read : each part_in (map view (take i tables)) ≡ Ok parts) where
    pub part_read : (part : T) → part_in (view x) ≡ Ok part → each part_in (map view (take (i + 1) tables)) ≡ Ok (parts ++ part ∷ [])
    part_read part reads =
        ap (λ l. each part_in (map view l)) (take_more tables i x within)
        ∙ ap (λ y. each part_in (map view (take i tables ++ y ∷ []))) (sym is)
        ∙ ap (each part_in) (map-append view (take i tables) (x ∷ []))
        ∙ each_push (map view (take i tables)) (view x) parts part read reads

    pub part_fails : (fault : ConfigFault) → part_in (view x) ≡ Err fault → each part_in (map view tables) ≡ Err fault
    part_fails fault fails =
        ap (λ l. each part_in (map view l)) (sym (take-append-drop i tables))
        ∙ ap (λ l. each part_in (map view (take i tables ++ l))) (drop_more tables i x within)
        ∙ ap (λ y. each part_in (map view (take i tables ++ y ∷ drop (i + 1) tables))) (sym is)
        ∙ ap (each part_in) (map-append view (take i tables) (x ∷ drop (i + 1) tables))
        ∙ each_fails (map view (take i tables)) (view x) (map view (drop (i + 1) tables)) parts fault read fails

pub ruleset part_steps = (part_read, part_fails)
