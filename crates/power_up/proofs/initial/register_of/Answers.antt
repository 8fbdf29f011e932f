use Rattle.std.proofs.Common.{subst}
use Rattle.numbering.specs.Places.{IsPlace}
use Rattle.numbering.specs.declared.place.Place.{Place}
use Rattle.power_up.proofs.BitLemmas.{clock_none, driven_none, input_none, no_place}
use Rattle.power_up.proofs.initial.register_of.Goals as goal

pub returns-in-Some-Clock-clause-none : goal.returns-in-Some-Clock-clause-none
returns-in-Some-Clock-clause-none c = λ none.
    let P : Place → Type 0 = IsPlace c.args.places.now c.args.name.now in
    clock_none c.args.places.now c.args.name.now (subst P c.in-Some-Clock.field-0-is c.in-Some-Clock.ensures.place)

pub returns-in-Some-Input-clause-none : goal.returns-in-Some-Input-clause-none
returns-in-Some-Input-clause-none c = λ none.
    let P : Place → Type 0 = IsPlace c.args.places.now c.args.name.now in
    input_none c.args.places.now c.args.name.now c.in-Some-Input.field-0-0
    (subst P c.in-Some-Input.field-0-is c.in-Some-Input.ensures.place)

pub returns-in-Some-Driven-clause-none : goal.returns-in-Some-Driven-clause-none
returns-in-Some-Driven-clause-none c = λ none.
    let P : Place → Type 0 = IsPlace c.args.places.now c.args.name.now in
    driven_none c.args.places.now c.args.name.now c.in-Some-Driven.field-0-0
    (subst P c.in-Some-Driven.field-0-is c.in-Some-Driven.ensures.place)

pub returns-in-None-clause-none : goal.returns-in-None-clause-none
returns-in-None-clause-none c = λ none. no_place c.args.places.now c.args.name.now c.place.result c.in-None.is c.place.ensures.found
