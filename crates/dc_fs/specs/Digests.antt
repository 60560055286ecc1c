-- MD5 (RFC 1321) of what a store or a desk holds. Every digest in this repository is that of these words.
use Rattle.std.specs.Prelude.{◌≡◌, ℕ, List, take, Option, Some, None, ⊤}
use Rattle.dc_attrs.specs.Trees.{Node, bytes_of}
use Rattle.md5.specs.Md5.{md5}

-- the digest of these bytes, where they are told
abbrev pub IsDigestOf : Option (List ℕ) → List ℕ → Type 0
IsDigestOf None digest = ⊤
IsDigestOf (Some bytes) digest = digest ≡ md5 bytes

-- the digest of the temporary at work
abbrev pub IsDigestAtWork : Option (Option (List ℕ)) → List ℕ → Type 0
IsDigestAtWork None digest = ⊤
IsDigestAtWork (Some told) digest = IsDigestOf told digest

-- the digest of the first bytes of the file that stands there
abbrev pub IsChecksum : ℕ → Option Node → List ℕ → Type 0
IsChecksum length node digest = (bytes : List ℕ) × (bytes_of node ≡ Some bytes) × (digest ≡ md5 (take length bytes))
