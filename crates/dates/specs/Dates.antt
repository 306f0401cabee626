-- The moment that a date of the program is.
use Rattle.dates.specs.Moments.{Moment}
use Rattle.dates.specs.declared.date.Date.{Date}

abbrev pub moment_of : Date → Moment
moment_of d = record { year = d.year; month = d.month; day = d.day; hour = d.hour; minute = d.minute; second = d.second }
