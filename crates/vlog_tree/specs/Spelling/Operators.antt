-- The operators (IEEE 1364-2005, clause 5.1).
use Rattle.std.specs.Prelude.{ℕ, List, Option, Some, None, if◌then◌else◌, ◌||◌, codes}
use Rattle.std.specs.Str.{bytes_eq}
use Rattle.vlog_tree.specs.declared.expr.BinOp.{BinOp}
use Rattle.vlog_tree.specs.declared.expr.BinOp.TheVariants as binary
use Rattle.vlog_tree.specs.declared.expr.UnOp.{UnOp}
use Rattle.vlog_tree.specs.declared.expr.UnOp.TheVariants as unary

-- the unary operator with this text
abbrev pub unary_operator : List ℕ → Option UnOp
unary_operator text =
    if bytes_eq text (codes "~") then Some unary.Inv
    else (if bytes_eq text (codes "!") then Some unary.Not
    else (if bytes_eq text (codes "&") then Some unary.RedAnd
    else (if bytes_eq text (codes "~&") then Some unary.RedNand
    else (if bytes_eq text (codes "|") then Some unary.RedOr
    else (if bytes_eq text (codes "~|") then Some unary.RedNor
    else (if bytes_eq text (codes "^") then Some unary.RedXor
    else (if bytes_eq text (codes "~^") || bytes_eq text (codes "^~") then Some unary.RedXnor
    else None)))))))

-- the binary operator with this text and its level, of which 1 binds tightest: `== !=`, then `&`, then `^ ~^ ^~`, then
-- `|`, then `&&`, then `||`
abbrev pub binary_operator : List ℕ → Option (ℕ × BinOp)
binary_operator text =
    if bytes_eq text (codes "==") then Some (1, binary.Eq)
    else (if bytes_eq text (codes "!=") then Some (1, binary.Ne)
    else (if bytes_eq text (codes "&") then Some (2, binary.And)
    else (if bytes_eq text (codes "^") then Some (3, binary.Xor)
    else (if bytes_eq text (codes "~^") || bytes_eq text (codes "^~") then Some (3, binary.Xnor)
    else (if bytes_eq text (codes "|") then Some (4, binary.Or)
    else (if bytes_eq text (codes "&&") then Some (5, binary.LogAnd)
    else (if bytes_eq text (codes "||") then Some (6, binary.LogOr)
    else None)))))))
