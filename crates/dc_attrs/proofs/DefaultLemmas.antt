-- The attributes of what is new fit.
use Rattle.std.proofs.Common.{◌≡◌, true, refl}
use Rattle.dc_attrs.specs.Attributes.{default_file, default_dir, fits_file, fits_dir}

pub default_dir_fits : fits_dir default_dir ≡ true
unfolding default_dir
default_dir_fits = refl

pub default_file_fits : fits_file default_file ≡ true
unfolding default_file
default_file_fits = refl
