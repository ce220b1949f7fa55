-- Images that the machine runs.
use Rattle.model.specs.declared.image.Image.{Image}
use Rattle.model.specs.Module.Spelling.{IsImage}
use Rattle.model.specs.Module.WellFormed.{IsWellFormed}

pub record IsLoaded (im : Image) : Type 0 where
  pub spelt : IsImage im
  pub formed : IsWellFormed im
