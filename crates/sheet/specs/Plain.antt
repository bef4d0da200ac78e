-- What a class stands for.
use Rattle.sheet.specs.declared.classes.Class.{Class}
use Rattle.sheet.specs.Given.{Terms}

-- its rates and its series
abbrev pub plain : Class → Terms
plain c = record { spread_rate = c.spread_rate; minimum_rate = c.minimum_rate; rows = c.series.now }
