-- What a fault that is handed on says.
use Rattle.std.proofs.Common.{◌≡◌, ℕ, false, Result, Ok, Err}
use Rattle.std.specs.Prelude.{is_err, IsErrAnd, IsErrOf, IfOk, OnOk}
use Rattle.ash_objects.specs.declared.restoring.TableFault.{TableFault}

-- what holds where memory was not refused
pub reserved : {E : Type 0} (r : Result (Unit {0}) E) (P : Type 0) → false ≡ is_err r → OnOk r P → P
reserved (Ok done) P fine ok = ok
reserved (Err fault) P fine ok = absurd (cc)

-- the fault that is reported is the one that was handed on
pub reported : {T : Type 0} (r : Result T TableFault) (fault other : TableFault) → IsErrAnd r (λ y. y ≡ fault) → IsErrOf r other → fault ≡ other
reported (Ok x) fault other from is = absurd from
reported (Err y) fault other from is = cc

-- where a fault is handed on there is no value
pub no_value : {T : Type 0} (r : Result T TableFault) (fault : TableFault) (P : T → Type 0) → IsErrAnd r (λ y. y ≡ fault) → IfOk r P
no_value (Ok x) fault P from = absurd from
no_value (Err y) fault P from = tt

-- refused memory is no other fault
pub not_short : (kind : ℕ) → TableFault.PoolShort kind ≡ TableFault.NoMemory → ⊥
not_short kind is = absurd (cc)

pub not_refused : (number : ℕ) → TableFault.RestoreRefused number ≡ TableFault.NoMemory → ⊥
not_refused number is = absurd (cc)

-- the kind of which no box is left
pub same_short : {T : Type 0} (kind other : ℕ) → IsErrOf {T = T} (Err (TableFault.PoolShort kind)) (TableFault.PoolShort other) → kind ≡ other
same_short kind other is = cc
