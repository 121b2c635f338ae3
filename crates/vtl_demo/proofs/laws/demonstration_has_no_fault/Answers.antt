use Rattle.vtl_demo.proofs.Meant.{meant}
use Rattle.vtl_demo.proofs.Products.{product_small, total_small}
use Rattle.vtl_demo.proofs.laws.demonstration_has_no_fault.Goals as goal

pub returns-clause-results : goal.returns-clause-results
returns-clause-results c = meant

pub returns-clause-products : goal.returns-clause-products
returns-clause-products c = product_small

pub returns-clause-totals : goal.returns-clause-totals
returns-clause-totals c = total_small
