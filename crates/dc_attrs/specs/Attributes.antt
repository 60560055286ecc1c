-- Attributes as they are compared (HDFS, `FileStatus`), and those of what is new.
use Rattle.std.specs.Prelude.{ℕ, Bool, List, [], nat_le, nat_eq, ◌&&◌}
use Rattle.dc_attrs.specs.declared.attributes.Xattr.{Xattr}

-- the attributes of a file or a directory
pub record Attributes : Type 0 where
  pub replication : ℕ
  pub block_size : ℕ
  pub user : List ℕ
  pub group : List ℕ
  pub mode : ℕ
  pub acl : List ℕ
  pub xattrs : List Xattr
  pub mtime : ℕ

-- a new file: replication 3, block size 128 MiB, mode octal 644
unfoldable pub default_file : Attributes
default_file = record { replication = 3; block_size = 134217728; user = []; group = []; mode = 420; acl = []; xattrs = []; mtime = 0 }

-- a new directory: mode octal 755
unfoldable pub default_dir : Attributes
default_dir = record { replication = 0; block_size = 0; user = []; group = []; mode = 493; acl = []; xattrs = []; mtime = 0 }

-- a file may have these attributes
abbrev pub fits_file : Attributes → Bool
fits_file a = nat_le 1 a.replication && nat_le 1 a.block_size

-- a directory may have these attributes
abbrev pub fits_dir : Attributes → Bool
fits_dir a = nat_eq a.replication 0 && nat_eq a.block_size 0
