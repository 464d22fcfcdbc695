-- `fits` meets its contract. Assumes nothing.
use Rattle.pour.specs.PourLaws.{fits_roomy, fits_counted}
use Rattle.pour.proofs.pouring.fits.Goals as goal

pub returns-then-text-most : goal.returns-then-text-most
returns-then-text-most c = search fits_roomy

pub returns : goal.returns
returns c = search fits_counted
