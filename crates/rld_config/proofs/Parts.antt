-- The tables of a file, as a loop over them reads them.
use Rattle.std.proofs.Common.{◌≡◌, ℕ, ◌+◌, ◌<◌, List, [], ◌∷◌, ◌++◌, map, length, get_or, drop, Result, Ok, Err, refl, sym, ap, append_assoc, ◌∙◌}
use Rattle.std.proofs.lemmas.List.{drop_more}
use Rattle.toml.specs.Data.{Data}
use Rattle.toml.specs.View.{view}
use Rattle.toml.specs.declared.value.Value.{Value}
use Rattle.rld_config.specs.declared.fault.ServerFault.{ServerFault}
use Rattle.rld_config.specs.Server.{each}
use Rattle.rld_config.specs.Value.{and_then}

-- what is read, behind what was read before it
abbrev pub behind : {T : Type 0} → List T → Result (List T) ServerFault → Result (List T) ServerFault
behind before (Ok found) = Ok (before ++ found)
behind before (Err fault) = Err fault

pub behind_none : {T : Type 0} (read : Result (List T) ServerFault) → read ≡ behind [] read
behind_none (Ok found) = refl
behind_none (Err fault) = refl

one_more : {T : Type 0} (before : List T) (found : T) (read : Result (List T) ServerFault) → behind before (and_then read (λ others. Ok (found ∷ others))) ≡ behind (before ++ found ∷ []) read
one_more before found (Ok others) = ap Ok (sym (append_assoc before (found ∷ []) others))
one_more before found (Err fault) = refl

module _ {T : Type 0} (says : ℕ → Data → Result T ServerFault) (tables : List Value) (i : ℕ) (x : Value) (within : i < length tables) (is : x ≡ get_or tables i x) (before : List T) where
  here : each says (i + 1) (map view (drop i tables)) ≡ each says (i + 1) (view x ∷ map view (drop (i + 1) tables))
  here = ap (λ l. each says (i + 1) (map view l)) (drop_more tables i x within) ∙ ap (λ y. each says (i + 1) (view y ∷ map view (drop (i + 1) tables))) (sym is)

  pub part_read : (found : T) → says (i + 1) (view x) ≡ Ok found → behind before (each says (i + 1) (map view (drop i tables))) ≡ behind (before ++ found ∷ []) (each says (i + 1 + 1) (map view (drop (i + 1) tables)))
  part_read found reads =
      ap (behind before) here
      ∙ rw reads (one_more before found (each says (i + 1 + 1) (map view (drop (i + 1) tables))))

  pub part_fails : (fault : ServerFault) → says (i + 1) (view x) ≡ Err fault → behind before (each says (i + 1) (map view (drop i tables))) ≡ Err fault
  part_fails fault fails = ap (behind before) here ∙ rw fails refl
