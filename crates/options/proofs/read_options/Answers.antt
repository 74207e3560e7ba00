-- The returns follow the checks in the definition's order: the length, the values, and the options.
use Rattle.std.proofs.Common.{rules, ◌≡◌, ◌<◌, length, arith, MatchResult, Ok, Err}
use Rattle.options.specs.Stored.{map_of}
use Rattle.options.specs.Types.{options_from}
use Rattle.options.proofs.Values.{empty_wrong, length_wrong_lem, length_right, length_refused, values_answer, read_narrow, read_numbers_lem}
use Rattle.options.proofs.read_options.Goals as goal

pub returns-in_err-map : goal.returns-in_err-map
returns-in_err-map c =
    let none : length c.args.stored.now ≡ 0 = search rules in
    let told = length_refused {said = c.from_residual.result} c.args.stored.now (empty_wrong c.args.stored.now none) (search rules) in
    record { answer = told.0; narrow = search rules; numbers = told.1 }

pub returns-then-stored-map : goal.returns-then-stored-map
returns-then-stored-map c =
    let some : 0 < length c.args.stored.now = search rules in
    let first : c.in_ok-map.map.now ≡ map_of c.args.stored.now = search rules in
    let told = length_refused c.args.stored.now (length_wrong_lem c.args.stored.now some first (search rules) c.if-stored-map.true) (search rules) in
    record { answer = told.0; narrow = tt; numbers = told.1 }

pub read_values-requires : goal.read_values-requires
read_values-requires c =
    let some : 0 < length c.args.stored.now = search rules in
    let first : c.in_ok-map.map.now ≡ map_of c.args.stored.now = search rules in
    (length_right c.args.stored.now some first (search rules) c.if-stored-map.false).0

pub returns : goal.returns
returns c =
    let some : 0 < length c.args.stored.now = search rules in
    let first : c.in_ok-map.map.now ≡ map_of c.args.stored.now = search rules in
    let right = (length_right c.args.stored.now some first (search rules) c.if-stored-map.false).1 in
    let read : MatchResult c.read_values.result (λ values. c.map.result ≡ Ok (options_from values)) (λ refusal. c.map.result ≡ Err refusal) = search rules in
    let is = values_answer c.read_values.result c.args.stored.now right c.read_values.ensures read in
    let narrow = read_narrow c.args.stored.now (λ i. omega (arith, c.type_inv.stored i)) in
    let told = read_numbers_lem c.args.stored.now is (rw is narrow) in
    record { answer = told.0; narrow = told.1.0; numbers = told.1.1 }
