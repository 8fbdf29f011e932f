-- How gates and instances are read.
use Rattle.std.specs.Prelude.{ℕ, Bool, true, false, List, [], ◌∷◌, ◌||◌, codes, Option, Some, None, Ok, Err, if◌then◌else◌}
use Rattle.vlog_tree.specs.declared.expr.Expr.{Expr}
use Rattle.vlog_tree.specs.declared.item.GateKind.{GateKind}
use Rattle.vlog_tree.specs.declared.item.Item.{Item}
use Rattle.vlog_tree.specs.declared.item.Item.TheVariants.{Gate, Instance}
use Rattle.vlog_tree.specs.declared.item.Link.{Link}
use Rattle.vlog_tree.specs.declared.left.Left.{Left}
use Rattle.vlog_tokens.specs.Toks.{Tok}
use Rattle.vlog_parse.specs.Exprs.{expr}
use Rattle.vlog_parse.specs.Lefts.{left}
use Rattle.vlog_parse.specs.Reads.{Outcome, Parser, ◌>>=◌, ◌>>◌, pure, here, sees, expect, loop, one_more, separated}
use Rattle.vlog_parse.specs.Terminals.{name}

-- ---- gates

abbrev pub some_name : Parser (Option (List ℕ))
some_name = do
  text ← name
  pure (Some text)

-- the name of a gate, if one stands before the parenthesis
unfoldable pub title : Parser (Option (List ℕ))
title = λ ts. if sees (codes "(") ts then Ok (None, ts) else some_name ts

-- name? "(" left "," expr,+ ")"
unfoldable pub input_gate : ℕ → GateKind → Parser Item
input_gate depth kind = do
  at ← here
  name ← title
  expect (codes "(")
  out ← left depth
  expect (codes ",")
  inputs ← separated (expr depth)
  expect (codes ")")
  pure (Gate at kind name (out ∷ []) inputs)

-- left ","
unfoldable pub output : ℕ → Parser Left
output depth = do
  found ← left depth
  expect (codes ",")
  pure found

abbrev pub is_read : {A : Type 0} → Outcome A → Bool
is_read (Ok p) = true
is_read (Err stuck) = false

-- whether a left side with a comma after it stands next
unfoldable pub is_output : ℕ → List Tok → Bool
is_output depth ts = is_read (output depth ts)

-- (left ",")+: a last terminal that begins like a left side has no comma after it
unfoldable pub outputs : ℕ → Parser (List Left)
outputs depth = do
  first ← output depth
  loop (is_output depth) (one_more (output depth)) (first ∷ [])

-- name? "(" left,+ "," expr ")"
unfoldable pub output_gate : ℕ → GateKind → Parser Item
output_gate depth kind = do
  at ← here
  name ← title
  expect (codes "(")
  outs ← outputs depth
  input ← expr depth
  expect (codes ")")
  pure (Gate at kind name outs (input ∷ []))

-- ---- instances

abbrev pub some_expr : ℕ → Parser (Option Expr)
some_expr depth = do
  found ← expr depth
  pure (Some found)

-- expr?, before a comma or the closing parenthesis
unfoldable pub connection : ℕ → Parser (Option Expr)
connection depth = λ ts. if sees (codes ",") ts || sees (codes ")") ts then Ok (None, ts) else some_expr depth ts

-- "." name "(" expr? ")"
unfoldable pub named_link : ℕ → Parser Link
named_link depth = do
  at ← here
  expect (codes ".")
  port ← name
  expect (codes "(")
  connected ← connection depth
  expect (codes ")")
  pure (record { at = at; port = Some port; expr = connected })

-- expr?, with the place of what stands next
unfoldable pub ordered_link : ℕ → Parser Link
ordered_link depth = do
  at ← here
  connected ← connection depth
  pure (record { at = at; port = None; expr = connected })

-- link,+ | olink,+, where a link is told by its dot
abbrev pub some_links : ℕ → Parser (List Link)
some_links depth =
    λ ts. if sees (codes ".") ts then separated (named_link depth) ts else separated (ordered_link depth) ts

-- nothing, or links
unfoldable pub links : ℕ → Parser (List Link)
links depth = λ ts. if sees (codes ")") ts then Ok ([], ts) else some_links depth ts

-- name "(" links ")"
unfoldable pub instance : ℕ → List ℕ → Parser Item
instance depth definition = do
  at ← here
  title ← name
  expect (codes "(")
  found ← links depth
  expect (codes ")")
  pure (Instance at definition title found)
