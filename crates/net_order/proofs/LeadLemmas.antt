-- Readings one after the other.
use Rattle.std.specs.Prelude.{◌≡◌, ℕ, zero, suc, List}
use Rattle.std.proofs.Common.{sym, subst}
use Rattle.flat_net.specs.declared.node.Node.{Node}
use Rattle.net_loops.specs.Loops.{Leads, Reads}
use Rattle.net_loops.proofs.LoopLemmas.{leads_more}
use Rattle.net_order.specs.Partings.{IsLed}

-- readings lead from a node to another, one at least
abbrev pub IsRead : List Node → ℕ → ℕ → Type 0
IsRead nodes from to = (count : ℕ) × Leads nodes (suc count) from to

module _ (nodes : List Node) where
  pub led_same : (from to : ℕ) → from ≡ to → IsLed nodes from to
  led_same from to same = (0, same)

  pub read_led : (from next to : ℕ) → Reads nodes from next → IsLed nodes next to → IsRead nodes from to
  read_led from next to reads led = (led.0, (next, (reads, led.1)))

  pub led_read : (from mid to : ℕ) → IsLed nodes from mid → Reads nodes mid to → IsRead nodes from to
  led_read from mid to led reads = (led.0, leads_more nodes led.0 from mid to led.1 reads)

  pub is_led : (from to : ℕ) → IsRead nodes from to → IsLed nodes from to
  is_led from to read = (suc read.0, read.1)

  way_then : (count from mid to : ℕ) → Leads nodes count from mid → IsLed nodes mid to → IsLed nodes from to
  way_then zero from mid to same led = subst (λ one. IsLed nodes one to) (sym same) led
  way_then (suc count) from mid to (next, (reads, way)) led =
      is_led from to (read_led from next to reads (way_then count next mid to way led))

  pub led_then : (from mid to : ℕ) → IsLed nodes from mid → IsLed nodes mid to → IsLed nodes from to
  led_then from mid to first second = way_then first.0 from mid to first.1 second

  way_then_read : (count from mid to : ℕ) → Leads nodes count from mid → IsRead nodes mid to → IsRead nodes from to
  way_then_read zero from mid to same read = subst (λ one. IsRead nodes one to) (sym same) read
  way_then_read (suc count) from mid to (next, (reads, way)) read =
      read_led from next to reads (is_led next to (way_then_read count next mid to way read))

  pub led_then_read : (from mid to : ℕ) → IsLed nodes from mid → IsRead nodes mid to → IsRead nodes from to
  led_then_read from mid to led read = way_then_read led.0 from mid to led.1 read

  pub read_then_led : (from mid to : ℕ) → IsRead nodes from mid → IsLed nodes mid to → IsRead nodes from to
  read_then_led from mid to (count, (next, (reads, way))) led =
      read_led from next to reads (led_then next mid to (count, way) led)

  -- ---- where each reading stays in a set, all that a node leads to does

  pub stays : (P : ℕ → Type 0) → ((node next : ℕ) → P node → Reads nodes node next → P next) → (count from to : ℕ) → P from
      → Leads nodes count from to → P to
  stays P closed zero from to has same = subst P same has
  stays P closed (suc count) from to has (next, (reads, way)) = stays P closed count next to (closed from next has reads) way
