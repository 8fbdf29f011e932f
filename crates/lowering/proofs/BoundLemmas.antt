-- How many nodes come, and when a fault may be.
use Rattle.std.proofs.Common.{◌≡◌, ℕ, ◌≤◌, Result, Ok, Err, arith, subst, sym}
use Rattle.std.specs.Result.{IfErr, IsErrAnd}
use Rattle.flat_net.specs.declared.fault.FlatFault.{FlatFault}
use Rattle.flat_net.specs.declared.fault.FlatFault.TheVariants.{Memory, TooLarge}
use Rattle.lowering.specs.Limits.{Excuses}

-- What excuses a call excuses one that comes to more nodes.
pub excuses_more : (few many : ℕ) (fault : FlatFault) → few ≤ many → Excuses few fault → Excuses many fault
excuses_more few many Memory le excused = excused
excuses_more few many (TooLarge what) le (is, above) = (is, omega arith)

-- Want of memory always excuses.
pub excuses_memory : (count : ℕ) (fault : FlatFault) → fault ≡ Memory → Excuses count fault
excuses_memory count Memory is = tt
excuses_memory count (TooLarge what) is = cc

-- What excuses a call excuses one that passes its fault on and comes to more nodes.
pub excused : {X : Type 0} (few many : ℕ) (result : Result X FlatFault) (why : FlatFault) → IsErrAnd result (λ e. e ≡ why)
    → Excuses few why → few ≤ many → IfErr result (Excuses many)
excused few many (Ok x) why is excuse le = tt
excused few many (Err other) why is excuse le = excuses_more few many other le (subst (Excuses few) (sym is) excuse)
