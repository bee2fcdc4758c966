-- What a request says of a key for its command.
use Rattle.std.specs.Prelude.{ℕ, List, [], ◌∷◌, Option, Some, None, codes, map}
use Rattle.http.specs.declared.request.Request.{Request}
use Rattle.http.specs.Request.{head_of}
use Rattle.http.specs.HeaderMap.{get_all}
use Rattle.command_keys.specs.Key.{key_in}
use Rattle.site_http.specs.declared.request_key.RequestKey.{RequestKey}
use Rattle.site_http.specs.declared.request_key.RequestKey.TheVariants.{Absent, Bad, Given}

-- the values of the fields with this name, in their order
abbrev pub values_of : Request (List ℕ) → List ℕ → List (List ℕ)
values_of request name = map (λ v. v.bytes) (get_all (head_of request).headers name)

-- what the value of a single field says, by the key that it spells
abbrev pub key_said : Option (List ℕ) → RequestKey
key_said (Some key) = Given key
key_said None = Bad

-- what the values of all such fields say: several are bad
abbrev pub key_by : List (List ℕ) → RequestKey
key_by [] = Absent
key_by (value ∷ []) = key_said (key_in value)
key_by values = Bad

-- what the request says
abbrev pub key_of : Request (List ℕ) → RequestKey
key_of request = key_by (values_of request (codes "idempotency-key"))
