-- The hosts to which a site answers.
use Rattle.std.specs.Prelude.{◌≡◌, ◌⊎◌, ℕ, Bool, List, [], ◌∷◌, take, codes, not, ◌==◌, IsTrue}
use Rattle.std.specs.List.{list_any, prefix_len}
use Rattle.std.specs.Net.Grammar.{IsIpv4Text, IsIpv6Text}
use Rattle.std.specs.declared.net.ipv4_addr.Ipv4Addr.{Ipv4Addr}
use Rattle.std.specs.declared.net.ipv6_addr.Ipv6Addr.{Ipv6Addr}
use Rattle.http1.specs.Text.{eq_ignore_case}

-- the text before the first such byte, or all of it
abbrev pub up_to : ℕ → List ℕ → List ℕ
up_to stop text = take (prefix_len (λ b. not (b == stop)) text) text

-- the text is an address of IP version 4
pub record IsIpv4 (text : List ℕ) : Type 0 where
  pub address : Ipv4Addr
  pub spelled : IsIpv4Text text address

-- the text is an address of IP version 6
pub record IsIpv6 (text : List ℕ) : Type 0 where
  pub address : Ipv6Addr
  pub spelled : IsIpv6Text text address

-- the text begins with an address of IP version 6 in brackets (91 and 93)
abbrev pub IsBracketed : List ℕ → Type 0
IsBracketed [] = ⊥
IsBracketed (first ∷ rest) = (first ≡ 91) × IsIpv6 (up_to 93 rest)

-- the text is `localhost` or one of the names, by letters of either case
abbrev pub is_named : List (List ℕ) → List ℕ → Bool
is_named names text = list_any (λ name. eq_ignore_case name text) (codes "localhost" ∷ names)

-- what a `Host` field says, with or without a port after a colon (58): an IP address, `localhost`, or one of the names
abbrev pub IsOwnHost : List (List ℕ) → List ℕ → Type 0
IsOwnHost names host = IsIpv4 (up_to 58 host) ⊎ IsTrue (is_named names (up_to 58 host)) ⊎ IsBracketed host
