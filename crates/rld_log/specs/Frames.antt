-- Frames. A frame is four octets of length, sixteen of MD5, and a payload. A file is whole frames,
-- followed by a torn end or nothing.
use Rattle.std.specs.Prelude.{◌≡◌, ℕ, ◌<◌, ◌^◌, List, ◌++◌, length}
use Rattle.std.specs.List.{flat_map, AllByRecursion}
use Rattle.std.specs.Int.{w32, to_be_bytes}
use Rattle.md5.specs.Md5.{md5}

unfoldable pub digest : List ℕ → List ℕ
digest payload = md5 payload

-- A block, in the shape of a frame: the length of the payload, sixteen octets in the place of its
-- digest, and the payload.
unfoldable pub block : (sum payload : List ℕ) → List ℕ
block sum payload = to_be_bytes w32 (length payload) ++ (sum ++ payload)

abbrev pub Fits : List ℕ → Type 0
Fits payload = length payload < 2 ^ 32

pub record IsBlock (sum payload : List ℕ) : Type 0 where
  pub digest : length sum ≡ 16
  pub fits : Fits payload

abbrev pub frame : List ℕ → List ℕ
frame payload = block (digest payload) payload

abbrev pub frames : List (List ℕ) → List ℕ
frames payloads = flat_map frame payloads

-- there is no block at the front
abbrev pub NoBlock : List ℕ → Type 0
NoBlock octets = (sum payload rest : List ℕ) → IsBlock sum payload → octets ≡ block sum payload ++ rest → ⊥

-- there is no frame at the front
abbrev pub NoFrame : List ℕ → Type 0
NoFrame octets = (payload rest : List ℕ) → Fits payload → octets ≡ frame payload ++ rest → ⊥

-- there is a frame at the front, or after a block at the front
pub data HasFrame : List ℕ → Type 0 where
  first : (octets payload rest : List ℕ) → Fits payload → octets ≡ frame payload ++ rest → HasFrame octets
  behind : (octets sum payload rest : List ℕ) → IsBlock sum payload → octets ≡ block sum payload ++ rest → HasFrame rest → HasFrame octets

-- what a write that was cut short may leave: there is no frame in it
abbrev pub IsTorn : List ℕ → Type 0
IsTorn tail = HasFrame tail → ⊥

-- a file of these payloads: their frames, and a torn end
pub record HasPayloads (file : List ℕ) (payloads : List (List ℕ)) : Type 0 where
  pub tail : List ℕ
  pub parts : file ≡ frames payloads ++ tail
  pub fit : AllByRecursion Fits payloads
  pub torn : IsTorn tail

-- A file that is damaged at an offset: frames stand up to it, none is there, and one comes after
-- blocks.
pub record IsDamagedAt (file : List ℕ) (at : ℕ) : Type 0 where
  pub payloads : List (List ℕ)
  pub tail : List ℕ
  pub parts : file ≡ frames payloads ++ tail
  pub fit : AllByRecursion Fits payloads
  pub offset : at ≡ length (frames payloads)
  pub spoilt : NoFrame tail
  pub later : HasFrame tail

-- the frames of a file have this length, and a torn end follows
pub record EndsAt (file : List ℕ) (len : ℕ) : Type 0 where
  pub payloads : List (List ℕ)
  pub has : HasPayloads file payloads
  pub size : len ≡ length (frames payloads)
