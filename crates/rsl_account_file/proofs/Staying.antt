-- Where all of a profile's attributes stay, their octets are those of the profile.
use Rattle.std.proofs.Common.{◌≡◌, ◌++◌, Bool, true, false, List, [], ◌∷◌, refl, ap}
use Rattle.std.specs.List.{flat_map, list_all}
use Rattle.rsl_reply.specs.declared.attribute.ReplyAttribute.{ReplyAttribute}
use Rattle.rsl_account_file.specs.Common.{octets_of}
use Rattle.rsl_account_file.specs.File.{staying, stays}

pub staying_all : (own front : List ReplyAttribute) → list_all (stays own) front ≡ true → flat_map (staying own) front ≡ octets_of front
staying_all own [] all = refl
staying_all own (attribute ∷ front) all = by (λ rest. staying_all own front rest) (stays own attribute) refl
  where
    by : (list_all (stays own) front ≡ true → flat_map (staying own) front ≡ octets_of front) → (b : Bool) → stays own attribute ≡ b
        → flat_map (staying own) (attribute ∷ front) ≡ octets_of (attribute ∷ front)
    by further true e =
        let rest : list_all (stays own) front ≡ true = rw e at all in
        rw e (ap (λ octets. attribute.octets ++ octets) (further rest))
    by further false e =
        let none : false ≡ true = rw e at all in
        cc
