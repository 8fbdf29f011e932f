-- What delays read.
use Rattle.std.specs.Prelude.{codes, Ok, Err, if◌then◌else◌}
use Rattle.vlog_numbers.specs.Values.{sees_based}
use Rattle.vlog_parse.specs.Reads.{Parser, ◌>>◌, expect, pure, sees, separated}
use Rattle.vlog_parse.specs.Terminals.{decimal}

-- no based token comes next: with the decimal before it, it would be one number
unfoldable pub parted : Parser (Unit {0})
parted = λ ts. if sees_based ts then Err ts else Ok (tt, ts)

unfoldable pub single : Parser (Unit {0})
single = do
  decimal
  parted

unfoldable pub several : Parser (Unit {0})
several = do
  expect (codes "(")
  separated decimal
  expect (codes ")")
  pure tt

unfoldable pub values : Parser (Unit {0})
values = λ ts. if sees (codes "(") ts then several ts else single ts

unfoldable pub delay : Parser (Unit {0})
delay = do
  expect (codes "#")
  values

-- a delay, if there is one
unfoldable pub any_delay : Parser (Unit {0})
any_delay = λ ts. if sees (codes "#") ts then delay ts else Ok (tt, ts)
