-- The setting that a reader may take where the granule is not known. Assumes nothing.
use Rattle.rules.specs.Numbers.{setting}
use Rattle.rules.specs.declared.Setting.{Setting}

-- the same addresses with a granule of 4,096
abbrev pub smallest : Setting → Setting
smallest s = setting 4096 s.spt0 s.spt1
